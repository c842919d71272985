-- Refusal 3, its first part (document 01, "Sections: 1 to 128 .."): the lowest section whose header breaks one of its clauses; 0 for the count.
use Rattle.std.specs.Prelude.{ℕ, ◌+◌, ◌/◌, ◌%◌, Bool, true, false, cond, not, ◌&&◌, List, length, eqb, ltb, leb, Option}
use Rattle.base_lists.specs.Ranges.{first}
use Rattle.base_fields.specs.declared.ByteOrder.{ByteOrder}
use Rattle.elf_records.specs.declared.section.SectionHeader.{SectionHeader}
use Rattle.base_scope.specs.Refusals.{expect, found_below}
use Rattle.base_scope.specs.Limits.{SECTION_LIMIT, ALIGN_LIMIT}
use Rattle.base_scope.specs.Elf.{SHT_NULL, SHT_NOBITS, SHF_LINK_ORDER}
use Rattle.elf_readers.specs.Readers.{section_count, header_place, section}

-- section 0, and no other, is type 0, with sh_size 0
unfoldable pub null_section_sound : ℕ → SectionHeader → Bool
null_section_sound i h = cond (eqb i 0) (eqb h.sh_type SHT_NULL && eqb h.sh_size 0) (not (eqb h.sh_type SHT_NULL))

-- SHF_LINK_ORDER, one bit, is not set
unfoldable pub unlinked : SectionHeader → Bool
unlinked h = eqb (h.sh_flags / SHF_LINK_ORDER % 2) 0

-- sh_size is divisible by a non-zero sh_entsize
unfoldable pub whole_entries : SectionHeader → Bool
whole_entries h = cond (eqb h.sh_entsize 0) true (eqb (h.sh_size % h.sh_entsize) 0)

-- the bytes lie inside a file of that length, except type NOBITS, which holds none
unfoldable pub bytes_inside : ℕ → SectionHeader → Bool
bytes_inside len h = cond (eqb h.sh_type SHT_NOBITS) true (leb (h.sh_offset + h.sh_size) len)

unfoldable pub header_sound : ℕ → ℕ → SectionHeader → Bool
header_sound len i h = null_section_sound i h && (unlinked h && (whole_entries h && (bytes_inside len h && leb h.sh_addralign ALIGN_LIMIT)))

module _ (o : ByteOrder) (F : List ℕ) where
  -- section i's header lies inside the file and keeps the clauses
  unfoldable pub section_sound : ℕ → Bool
  section_sound i = leb (header_place o F i + 40) (length F) && header_sound (length F) i (section o F i)

  unfoldable pub bad_section : ℕ → Bool
  bad_section i = not (section_sound i)

  unfoldable pub count_sound : Bool
  count_sound = leb 1 (section_count o F) && leb (section_count o F) SECTION_LIMIT

  unfoldable pub section_fault : Option ℕ
  section_fault = expect count_sound 0 (found_below (section_count o F) (first bad_section 0 (section_count o F)))
