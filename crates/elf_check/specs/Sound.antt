-- What holds of every accepted object: the bounds and the forms that later steps read it by. proofs/Sound.antt derives it from the check.
use Rattle.std.specs.Prelude.{ℕ, ◌+◌, ◌*◌, ◌≤◌, ◌<◌, ◌≡◌, Bool, true, false, List, [], None}
use Rattle.base_lists.specs.Strings.{has_end, ascii}
use Rattle.base_fields.specs.declared.ByteOrder.{ByteOrder}
use Rattle.base_fields.specs.declared.ByteOrder.TheVariants.{Big}
use Rattle.base_scope.specs.Codes.{CODES, code_type}
use Rattle.elf_readers.specs.Readers.{header, section_count, section, section_strings, section_name, coded_section, is_strtab}
use Rattle.elf_readers.specs.Bounds.{Named}
use Rattle.elf_header.specs.FileHeader.{header_fault}
use Rattle.elf_sections.specs.Headers.{header_sound, section_sound}
use Rattle.elf_symbols.specs.Symbols.{symtab, strtab, symbol_count, symbol, symbol_strings, symbol_name, Tabled}
use Rattle.elf_symbol_faults.specs.Faults.{zero_entry, index_sound}
use Rattle.elf_relocations.specs.Relocations.{is_table, relocation_table_sound, entry_size, relocation_count}

pub record Sound (o : ByteOrder) (F : List ℕ) : Type 0 where
  -- the file header's fields are as document 01 has them, and e_shstrndx is a string table
  pub fields : header_fault o F ≡ None
  pub names : is_strtab o F (header o F).e_shstrndx ≡ true
  -- reading: every header, every section's bytes and every symbol lie inside the file
  pub named : Named o F
  pub tabled : Tabled o F
  pub some : 1 ≤ section_count o F
  pub sections : (i : ℕ) → i < section_count o F → section_sound o F i ≡ true
  -- names end, and section names are ASCII
  pub section_ends : (i : ℕ) → i < section_count o F → has_end (section_strings o F) (section o F i).sh_name ≡ true
  pub section_ascii : (i : ℕ) → i < section_count o F → ascii (section_name o F i) ≡ true
  pub symbol_ends : (k : ℕ) → k < symbol_count o F → has_end (symbol_strings o F) (symbol o F k).st_name ≡ true
  -- the sections of the codes have document 01's types
  pub types : (c : ℕ) → 1 ≤ c → c ≤ CODES → coded_section o F c < section_count o F → (section o F (coded_section o F c)).sh_type ≡ code_type c
  -- symbol 0 is zeros with an empty name; every symbol's section exists or is reserved; entries have 16 bytes, and none is cut
  pub null : zero_entry (symbol o F 0) ≡ true
  pub unnamed : symbol_name o F 0 ≡ []
  pub indices : (k : ℕ) → k < symbol_count o F → index_sound (section_count o F) (symbol o F k).st_shndx ≡ true
  pub symbol_entry : (section o F (symtab o F)).sh_entsize ≡ 16
  pub symbol_bytes : (section o F (symtab o F)).sh_size ≡ 16 * symbol_count o F
  pub strings : is_strtab o F (strtab o F) ≡ true
  -- relocation tables are as document 01 has them, and have no cut entry
  pub tables : (t : ℕ) → t < section_count o F → is_table o F t ≡ true → relocation_table_sound o F t ≡ true
  pub table_bytes : (t : ℕ) → t < section_count o F → is_table o F t ≡ true → (section o F t).sh_size ≡ entry_size o F t * relocation_count o F t
