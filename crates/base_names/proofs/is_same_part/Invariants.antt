use Rattle.base_lists.specs.Strings.{same}
use mathlib.Core.Path.{◌≡◌}
use lib.ListN.{take, drop}
use Rattle.base_names.proofs.is_same_part.Given as goal

abbrev pub invariant-loop-i : goal.invariant-loop-i
invariant-loop-i l = l.alike ≡ same (take l.i (drop l.at l.a)) (take l.i (drop l.at l.b))
