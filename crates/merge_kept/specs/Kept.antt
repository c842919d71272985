-- What stays of C's sections when the drop flag is set (document 01, "Merge: with the flag, trailing sections of types 70000003 and 70000005 hex are dropped").
use Rattle.std.specs.Prelude.{ℕ, Bool, cond, not, ◌||◌, List, eqb}
use Rattle.base_lists.specs.Ranges.{past_last}
use Rattle.base_fields.specs.declared.ByteOrder.{ByteOrder}
use Rattle.base_scope.specs.Elf.{SHT_MIPS_GPTAB, SHT_MIPS_DEBUG}
use Rattle.elf_readers.specs.Readers.{section_count, section}

module _ (o : ByteOrder) (F : List ℕ) where
  -- section i is of neither type
  unfoldable pub stays : ℕ → Bool
  stays i = not (eqb (section o F i).sh_type SHT_MIPS_GPTAB || eqb (section o F i).sh_type SHT_MIPS_DEBUG)

  -- how many sections stay: with the flag, up to the last that is of neither type
  unfoldable pub kept : ℕ → ℕ
  kept flag = cond (eqb flag 1) (past_last stays (section_count o F)) (section_count o F)
