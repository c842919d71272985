use Prim.Native.Nat.{◌≤◌}
use mathlib.Core.Path.{◌≡◌}
use lib.ListN.{length}
use Rattle.carry_homes.specs.Homes.{CARRIED_RANKS}
use Rattle.carry_homes.specs.Code.{RanksListed}
use Rattle.carry_homes.proofs.list_tables.Given as goal

abbrev pub invariant-loop-rank : goal.invariant-loop-rank
invariant-loop-rank l = (length l.rows ≡ length l.initial.rows) × (l.rank ≤ CARRIED_RANKS) × RanksListed l.order l.assembled l.rank 0 l.m l.rows
