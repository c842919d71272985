use Rattle.base_lists.specs.Ranges.{first}
use Rattle.symbols_rows.specs.Rows.{elsewhere_in}
use Prim.Native.Nat.{◌≤◌}
use mathlib.Core.Path.{◌≡◌}
use Rattle.symbols_rows.proofs.elsewhere_fault.Given as goal

abbrev pub invariant-loop-p : goal.invariant-loop-p
invariant-loop-p l = (l.p ≤ l.m) × (first (elsewhere_in l.rows l.list l.holders) 0 l.m ≡ first (elsewhere_in l.rows l.list l.holders) l.p l.m)
