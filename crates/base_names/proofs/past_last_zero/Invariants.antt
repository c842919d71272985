use mathlib.Core.Path.{◌≡◌}
use lib.ListN.{length}
use Rattle.base_lists.specs.Ranges.{past_last}
use Rattle.base_lists.specs.Strings.{zero_at}
use Rattle.base_names.proofs.past_last_zero.Given as goal

abbrev pub invariant-loop-i : goal.invariant-loop-i
invariant-loop-i l = past_last (zero_at l.t) (length l.t) ≡ past_last (zero_at l.t) l.i
