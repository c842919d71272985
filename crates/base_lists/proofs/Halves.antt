-- Search by halves: the first index below n that passes a test which goes on passing once it passes. What is not known yet lies between `low` and `high`; a turn
-- looks at one index there and keeps one side of it. Assumes nothing.
use Prim.Native.Nat.{ℕ, ◌+◌, ◌≤◌, ◌<◌}
use mathlib.Core.Path.{◌≡◌}
use mathlib.Core.Bool.{Bool, true, false}
use native.Mathlib.Omega.{arith}
use Rattle.base_lists.specs.Ranges.{first}
use Rattle.base_lists.proofs.Ranges.{by-test, both, first_is, first_unique}

-- below n the test goes on passing once it passes
abbrev pub GoesOn : (ℕ → Bool) → ℕ → Type 0
GoesOn p n = (i j : ℕ) → i ≤ j → j < n → p i ≡ true → p j ≡ true

-- every index below `low` fails the test, and every one from `high` on passes
pub record Halving (p : ℕ → Bool) (n low high : ℕ) : Type 0 where
  pub order : low ≤ high
  pub inside : high ≤ n
  pub below : (j : ℕ) → j < low → p j ≡ false
  pub above : (j : ℕ) → high ≤ j → j < n → p j ≡ true

pub halving_none : (p : ℕ → Bool) (n : ℕ) → Halving p n 0 n
halving_none p n = record { order = omega arith; inside = omega arith; below = λ j h. absurd (omega arith); above = λ j l h. absurd (omega arith) }

module _ (p : ℕ → Bool) (n low high : ℕ) (w : Halving p n low high) where
  -- the two ways of a turn
  pub halving_down : GoesOn p n → (mid : ℕ) → low ≤ mid → p mid ≡ true → mid < high → Halving p n low mid
  halving_down on mid l t u = record { order = l; inside = omega (arith, w.inside); below = w.below; above = λ j g h. on mid j g h t }

  pub halving_up : GoesOn p n → (mid : ℕ) → low ≤ mid → p mid ≡ false → mid < high → Halving p n (mid + 1) high
  halving_up on mid l f u = record {
    order = omega arith;
    inside = w.inside;
    below = λ j h. by-test (p j) (λ t. both (on j mid (omega arith) (omega (arith, w.inside)) t) f) (λ e. e);
    above = w.above;
  }

  -- nothing lies between them: the index is found
  pub halving_end : high ≤ low → low ≡ first p 0 n
  halving_end h =
      let e : low ≡ high = omega (arith, w.order) in
      first_unique p 0 n _ _
      (record { low = omega arith; high = omega (arith, w.inside); below = λ j l u. w.below j u; here = λ u. w.above low (omega arith) u })
      (first_is p 0 n (omega arith))
