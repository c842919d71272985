use Prim.Native.Nat.{◌+◌, ◌≤◌}
use mathlib.Core.Path.{◌≡◌}
use lib.Dec.{eqb}
use Rattle.base_lists.specs.Ranges.{first}
use Rattle.carry_homes.specs.Code.{home_in}
use Rattle.carry_homes.proofs.opened_by.Given as goal

abbrev pub invariant-loop-j : goal.invariant-loop-j
invariant-loop-j l = (l.j ≤ l.n) × (first (λ k. eqb (home_in l.rows k) (l.stay + l.i)) 0 l.n ≡ first (λ k. eqb (home_in l.rows k) (l.stay + l.i)) l.j l.n)
