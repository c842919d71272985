use Prim.Native.Nat.{◌≤◌}
use mathlib.Core.Path.{◌≡◌}
use lib.ListN.{length}
use Rattle.carry_homes.specs.Code.{HomesTo}
use Rattle.carry_homes.proofs.list_homes.Given as goal

abbrev pub invariant-loop-j : goal.invariant-loop-j
invariant-loop-j l =
    (length l.rows ≡ length l.initial.rows) × (l.j ≤ l.tables) × HomesTo l.order l.compiled l.assembled l.stay l.j l.opened l.rows
