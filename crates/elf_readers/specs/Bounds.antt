-- What the checks of headers and names leave true of an object: the bounds that reading it relies on. The crate elf_sections derives both from
-- refusals 2, 3 and 4 (proofs/Bounds.antt there).
use Rattle.std.specs.Prelude.{ℕ, ◌+◌, ◌≤◌, ◌<◌, ◌≢◌, List, ◌≡◌, length}
use Rattle.base_fields.specs.declared.ByteOrder.{ByteOrder}
use Rattle.base_scope.specs.Elf.{SHT_NOBITS}
use Rattle.base_scope.specs.Limits.{SECTION_LIMIT}
use Rattle.elf_readers.specs.Readers.{header, section_count, header_place, section}

-- every section header, and every section's bytes, lie inside the file
pub record Headed (o : ByteOrder) (F : List ℕ) : Type 0 where
  pub whole : 52 ≤ length F
  pub few : section_count o F ≤ SECTION_LIMIT
  pub inside : (i : ℕ) → i < section_count o F → header_place o F i + 40 ≤ length F
  pub held : (i : ℕ) → i < section_count o F → (section o F i).sh_type ≢ SHT_NOBITS → (section o F i).sh_offset + (section o F i).sh_size ≤ length F

-- and the section names' string table is one of the sections
pub record Named (o : ByteOrder) (F : List ℕ) : Type 0 where
  pub headed : Headed o F
  pub strings : (header o F).e_shstrndx < section_count o F
