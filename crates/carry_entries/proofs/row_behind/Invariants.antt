use Prim.Native.Nat.{◌-◌}
use Rattle.base_lists.proofs.Halves.{Halving}
use Rattle.blocks_spans.specs.Table.{spans_in, ends_behind}
use Rattle.carry_entries.proofs.row_behind.Given as goal

abbrev pub invariant-loop-low : goal.invariant-loop-low
invariant-loop-low l = Halving (ends_behind (spans_in l.rows l.n) l.x) l.n l.low l.high

abbrev pub decreases-loop-low : goal.decreases-loop-low
decreases-loop-low l = l.high - l.low
