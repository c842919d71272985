-- Refusal 4 (document 01's table): e_shstrndx names no string table, or a section's name has no zero end or a byte over 127; and refusal 3's
-- second part, tested after it: the first .text, .data, .rodata, .late_rodata, .bss or .reginfo of another type.
use Rattle.std.specs.Prelude.{ℕ, ◌+◌, Bool, not, ◌&&◌, List, ◌≡◌, length, eqb, ltb, Option}
use Rattle.base_lists.specs.Ranges.{first, least, past_last}
use Rattle.base_lists.specs.Strings.{has_end, zero_at, ascii}
use Rattle.base_fields.specs.declared.ByteOrder.{ByteOrder}
use Rattle.base_scope.specs.Refusals.{expect, found_below}
use Rattle.base_scope.specs.Codes.{CODES, code_type}
use Rattle.elf_readers.specs.Bounds.{Headed}
use Rattle.elf_readers.specs.Readers.{header, section_count, section, is_strtab, section_strings, section_name, coded_section}

module _ (o : ByteOrder) (F : List ℕ) where
  unfoldable pub name_sound : ℕ → Bool
  name_sound i = has_end (section_strings o F) (section o F i).sh_name && ascii (section_name o F i)

  unfoldable pub bad_name : ℕ → Bool
  bad_name i = not (name_sound i)

  unfoldable pub name_fault : Option ℕ
  name_fault = expect (is_strtab o F (header o F).e_shstrndx) 0 (found_below (section_count o F) (first bad_name 0 (section_count o F)))

  -- the section of code i + 1 is there, and of another type than document 01 asks
  unfoldable pub mistyped : ℕ → Bool
  mistyped i = ltb (coded_section o F (i + 1)) (section_count o F) && not (eqb (section o F (coded_section o F (i + 1))).sh_type (code_type (i + 1)))

  unfoldable pub coded_after : ℕ → ℕ
  coded_after i = coded_section o F (i + 1)

  -- the lowest such section
  unfoldable pub type_fault : Option ℕ
  type_fault = found_below (section_count o F) (least coded_after mistyped (section_count o F) CODES)

-- while names are checked: the names' table is in hand, and one past its last zero byte
pub record Naming (o : ByteOrder) (F strings : List ℕ) (ends : ℕ) : Type 0 where
  pub headed : Headed o F
  pub table : strings ≡ section_strings o F
  pub past : ends ≡ past_last (zero_at strings) (length strings)
