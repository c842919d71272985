-- The symbols of the assembled object A that its relocations use, and the codes of its sections by index (document 01, "Symbols": "locals ... that no relocation of its five
-- sections uses"; refusals 15 and 16).
use Rattle.std.specs.Prelude.{ℕ, ◌+◌, Bool, ◌&&◌, List, eqb, ltb}
use Rattle.base_lists.specs.Ranges.{first}
use Rattle.base_lists.specs.Rows.{has_row}
use Rattle.base_fields.specs.declared.ByteOrder.{ByteOrder}
use Rattle.base_scope.specs.Codes.{TEXT, LATE_RODATA}
use Rattle.base_packed.specs.Packed.{symbol_of}
use Rattle.elf_readers.specs.Readers.{section_count, section, coded_section, has_code}
use Rattle.elf_relocations.specs.Relocations.{is_table, relocation_count, relocation}

module _ (o : ByteOrder) (A : List ℕ) where
  -- section s is the one of code c
  unfoldable pub is_section_of : ℕ → ℕ → Bool
  is_section_of s c = has_code o A c && eqb (coded_section o A c) s

  -- the code of section s, among 1 to 5; the code behind them where it is none of the five. Codes have different sections (elf_readers, `codes_apart`).
  unfoldable pub code_of : ℕ → ℕ
  code_of s = first (is_section_of s) TEXT (LATE_RODATA + 1)

  unfoldable pub is_source : ℕ → Bool
  is_source s = ltb (code_of s) (LATE_RODATA + 1)

  -- table t relocates one of the five, whether that one holds bytes or not
  unfoldable pub is_source_table : ℕ → Bool
  is_source_table t = is_table o A t && is_source (section o A t).sh_info

  -- entry j of table t does, and its symbol is k
  unfoldable pub uses_symbol : ℕ → ℕ → ℕ → Bool
  uses_symbol k t j = is_source_table t && eqb (symbol_of (relocation o A t j).r_info) k

  unfoldable pub is_used : ℕ → Bool
  is_used k = has_row (uses_symbol k) (relocation_count o A) (section_count o A)
