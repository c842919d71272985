use Rattle.symbols_fill.specs.Fill.{row_c, RowsPut}
use Prim.Native.Nat.{◌≤◌}
use Rattle.symbols_fill.proofs.fill_c.Given as goal

abbrev pub invariant-loop-k : goal.invariant-loop-k
invariant-loop-k l = (l.k ≤ l.n) × RowsPut (row_c l.order l.compiled) 0 l.k l.initial.rows l.rows
