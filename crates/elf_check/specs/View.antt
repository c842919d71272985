-- Of the code, not of document 01: what later steps ask of an accepted object again and again, as numbers. An index is the section count where there is no such section.
use Rattle.std.specs.Prelude.{ℕ, ◌+◌, ◌-◌, ◌≡◌, Bool, true, List, get_or, ltb}
use Rattle.base_lists.specs.Ranges.{select}
use Rattle.base_fields.specs.declared.ByteOrder.{ByteOrder}
use Rattle.base_scope.specs.Codes.{CODES}
use Rattle.elf_readers.specs.Readers.{header, section_count, section, coded_section}
use Rattle.elf_readers.specs.Bounds.{Named}
use Rattle.elf_symbols.specs.Symbols.{symtab, strtab, symbol_table, Tabled}
use Rattle.elf_check.specs.declared.View.{View}

-- the sections of the codes, in their order
unfoldable pub coded_sections : ByteOrder → List ℕ → List ℕ
coded_sections o F = select (λ i. true) (λ i. coded_section o F (i + 1)) CODES

unfoldable pub view_of : ByteOrder → List ℕ → View
view_of o F = record {
  sections = section_count o F;
  section_strings = (header o F).e_shstrndx;
  symtab = symtab o F;
  strtab = strtab o F;
  locals = (section o F (symtab o F)).sh_info;
  symbols = symbol_table o F;
  coded = coded_sections o F;
}

-- the section of a code in a view
unfoldable pub section_in : View → ℕ → ℕ
section_in v c = get_or v.coded (c - 1) 0

unfoldable pub has_in : View → ℕ → Bool
has_in v c = ltb (section_in v c) v.sections

-- an object in hand that is read by its view
pub record Viewed (o : ByteOrder) (F : List ℕ) (v : View) : Type 0 where
  pub named : Named o F
  pub tabled : Tabled o F
  pub is : v ≡ view_of o F
