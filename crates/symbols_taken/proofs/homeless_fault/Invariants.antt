use Rattle.base_lists.specs.Ranges.{first}
use Rattle.symbols_taken.specs.Code.{is_homeless_in}
use Prim.Native.Nat.{◌≤◌}
use mathlib.Core.Path.{◌≡◌}
use Rattle.symbols_taken.proofs.homeless_fault.Given as goal

abbrev pub invariant-loop-k : goal.invariant-loop-k
invariant-loop-k l = (l.k ≤ l.n) × (first (is_homeless_in l.compiled l.view l.order l.assembled) 0 l.n ≡ first (is_homeless_in l.compiled l.view l.order l.assembled) l.k l.n)
