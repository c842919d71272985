use Rattle.base_lists.proofs.Halves.{Halving}
use Rattle.late_runs.specs.Words.{word_past}
use Prim.Native.Nat.{◌-◌}
use Rattle.late_runs.proofs.dummy_over.Given as goal

abbrev pub invariant-loop-low : goal.invariant-loop-low
invariant-loop-low l = Halving (word_past l.late l.i l.x) l.count l.low l.high

abbrev pub decreases-loop-low : goal.decreases-loop-low
decreases-loop-low l = l.high - l.low
