use Rattle.base_lists.specs.Strings.{same, prefixed}
use mathlib.Core.Path.{◌≡◌}
use lib.ListN.{length, take, drop}
use Rattle.base_names.proofs.has_prefix.Given as goal

abbrev pub invariant-loop-i : goal.invariant-loop-i
invariant-loop-i l = prefixed l.p l.s ≡ same (drop l.i (take (length l.p) l.s)) (drop l.i l.p)
