use Rattle.base_lists.specs.Ranges.{first}
use Rattle.symbols_rows.specs.Rows.{loose_in}
use Prim.Native.Nat.{◌≤◌}
use mathlib.Core.Path.{◌≡◌}
use Rattle.symbols_rows.proofs.loose_fault.Given as goal

abbrev pub invariant-loop-p : goal.invariant-loop-p
invariant-loop-p l = (l.p ≤ l.m) × (first (loose_in l.rows l.list) 0 l.m ≡ first (loose_in l.rows l.list) l.p l.m)
