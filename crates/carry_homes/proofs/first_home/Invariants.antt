use Prim.Native.Nat.{◌≤◌}
use mathlib.Core.Path.{◌≡◌}
use Rattle.base_lists.specs.Ranges.{first}
use Rattle.carry_homes.specs.Homes.{carried_count, same_home}
use Rattle.carry_homes.proofs.first_home.Given as goal

abbrev pub invariant-loop-i : goal.invariant-loop-i
invariant-loop-i l =
    (l.i ≤ l.j) × (first (same_home l.order l.assembled l.j) 0 (carried_count l.order l.assembled) ≡ first (same_home l.order l.assembled l.j) l.i (carried_count l.order l.assembled))
