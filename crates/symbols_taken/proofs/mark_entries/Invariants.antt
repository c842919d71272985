use Rattle.symbols_taken.specs.Code.{marked, used_below}
use Prim.Native.Nat.{◌≤◌}
use mathlib.Core.Path.{◌≡◌}
use Rattle.symbols_taken.proofs.mark_entries.Given as goal

abbrev pub invariant-loop-j : goal.invariant-loop-j
invariant-loop-j l =
    (l.j ≤ l.n) × (l.used ≡ marked (used_below l.order l.assembled l.t l.j) l.initial.used)
