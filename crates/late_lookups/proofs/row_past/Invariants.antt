use Rattle.base_lists.proofs.Halves.{Halving}
use Rattle.late_lookups.specs.Fields.{is_past}
use Prim.Native.Nat.{◌-◌}
use Rattle.late_lookups.proofs.row_past.Given as goal

abbrev pub invariant-loop-low : goal.invariant-loop-low
invariant-loop-low l = Halving (is_past l.late l.f l.x) l.n l.low l.high

abbrev pub decreases-loop-low : goal.decreases-loop-low
decreases-loop-low l = l.high - l.low
