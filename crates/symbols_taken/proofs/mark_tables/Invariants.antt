use Rattle.symbols_taken.specs.Code.{marked, used_to}
use Prim.Native.Nat.{◌≤◌}
use mathlib.Core.Path.{◌≡◌}
use Rattle.symbols_taken.proofs.mark_tables.Given as goal

abbrev pub invariant-loop-t : goal.invariant-loop-t
invariant-loop-t l =
    (l.t ≤ l.n) × (l.used ≡ marked (used_to l.order l.assembled l.t) l.initial.used)
