use Rattle.symbols_fill.specs.Fill.{row_a, RowsPut}
use Prim.Native.Nat.{◌≤◌}
use Rattle.symbols_fill.proofs.fill_a.Given as goal

abbrev pub invariant-loop-k : goal.invariant-loop-k
invariant-loop-k l = (l.k ≤ l.n) × RowsPut (row_a l.assembled l.late l.filling) l.first l.k l.initial.rows l.rows
