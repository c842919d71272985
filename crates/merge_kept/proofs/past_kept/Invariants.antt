use Rattle.elf_readers.specs.Readers.{section_count}
use Rattle.merge_kept.specs.Kept.{stays}
use Rattle.base_lists.specs.Ranges.{past_last}
use mathlib.Core.Path.{◌≡◌}
use Rattle.merge_kept.proofs.past_kept.Given as goal

abbrev pub invariant-loop-i : goal.invariant-loop-i
invariant-loop-i l = past_last (stays l.order l.file) (section_count l.order l.file) ≡ past_last (stays l.order l.file) l.i
