-- The relocation tables of an object (gABI, "Relocation"), and refusal 6: the lowest table with entries of another size, no existing section, or a link that is not the symbol table.
use Rattle.std.specs.Prelude.{ℕ, ◌+◌, ◌*◌, ◌/◌, ◌≤◌, ◌<◌, Bool, true, false, cond, not, ◌&&◌, ◌||◌, List, ◌≡◌, length, eqb, ltb, Option}
use Rattle.base_lists.specs.Ranges.{first}
use Rattle.base_fields.specs.declared.ByteOrder.{ByteOrder}
use Rattle.base_fields.specs.Layouts.{width_of}
use Rattle.elf_records.specs.declared.relocation.RelocationEntry.{RelocationEntry}
use Rattle.elf_records.specs.Relocation.{relocation_at, relocation_layout}
use Rattle.base_scope.specs.Refusals.{found_below}
use Rattle.base_scope.specs.Elf.{SHT_REL, SHT_RELA}
use Rattle.elf_readers.specs.Readers.{section_count, section}
use Rattle.elf_readers.specs.Bounds.{Headed}
use Rattle.elf_symbols.specs.Symbols.{symtab}

module _ (o : ByteOrder) (F : List ℕ) where
  -- section i has addends: it is a RELA
  unfoldable pub is_rela : ℕ → Bool
  is_rela i = eqb (section o F i).sh_type SHT_RELA

  -- section i is a relocation table, REL or RELA
  unfoldable pub is_table : ℕ → Bool
  is_table i = is_rela i || eqb (section o F i).sh_type SHT_REL

  -- bytes of an entry: 8 (REL) or 12 (RELA)
  unfoldable pub entry_size : ℕ → ℕ
  entry_size i = width_of (relocation_layout (is_rela i))

  -- document 01: entry 8 or 12, sh_info an existing section, sh_link the symbol table
  unfoldable pub relocation_table_sound : ℕ → Bool
  relocation_table_sound i = eqb (section o F i).sh_entsize (entry_size i) && (ltb (section o F i).sh_info (section_count o F) && eqb (section o F i).sh_link (symtab o F))

  unfoldable pub bad_table : ℕ → Bool
  bad_table i = is_table i && not (relocation_table_sound i)

  unfoldable pub relocation_fault : Option ℕ
  relocation_fault = found_below (section_count o F) (first bad_table 0 (section_count o F))

  -- table i relocates section s
  unfoldable pub relocates : ℕ → ℕ → Bool
  relocates s i = is_table i && eqb (section o F i).sh_info s

  -- the first table for section s at or after i; the section count where there is none
  unfoldable pub table_from : ℕ → ℕ → ℕ
  table_from s i = first (relocates s) i (section_count o F)

  unfoldable pub relocation_count : ℕ → ℕ
  relocation_count t = (section o F t).sh_size / entry_size t

  -- entry k of table t
  unfoldable pub relocation : ℕ → ℕ → RelocationEntry
  relocation t k = relocation_at o (is_rela t) F ((section o F t).sh_offset + entry_size t * k)

-- t is a relocation table that has an entry k
pub record Listed (o : ByteOrder) (F : List ℕ) (t k : ℕ) : Type 0 where
  pub table : t < section_count o F
  pub kind : is_table o F t ≡ true
  pub entry : k < relocation_count o F t
