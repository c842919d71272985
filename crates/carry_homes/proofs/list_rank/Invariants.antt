use Prim.Native.Nat.{◌≤◌}
use mathlib.Core.Path.{◌≡◌}
use lib.ListN.{length}
use Rattle.carry_homes.specs.Code.{RanksListed}
use Rattle.carry_homes.proofs.list_rank.Given as goal

abbrev pub invariant-loop-t : goal.invariant-loop-t
invariant-loop-t l = (length l.rows ≡ length l.initial.rows) × (l.t ≤ l.n) × RanksListed l.order l.assembled l.rank l.t l.r l.rows
