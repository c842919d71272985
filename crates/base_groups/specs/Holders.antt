-- Of the indices below n, those that are alike are held by the first of them.
use Rattle.std.specs.Prelude.{ℕ, ◌≡◌, Bool, true, eqb}
use Rattle.base_lists.specs.Ranges.{first}

module _ (alike : ℕ → ℕ → Bool) (n : ℕ) where
  -- the holder of index p
  unfoldable pub holder : ℕ → ℕ
  holder p = first (alike p) 0 n

  -- p is the holder of all that are like it
  unfoldable pub is_holder : ℕ → Bool
  is_holder p = eqb (holder p) p

-- what it takes that holders part the indices: a test that goes both ways, and on
pub record Equivalence (alike : ℕ → ℕ → Bool) : Type 0 where
  pub itself : (p : ℕ) → alike p p ≡ true
  pub back : (p q : ℕ) → alike p q ≡ true → alike q p ≡ true
  pub on : (p q r : ℕ) → alike p q ≡ true → alike q r ≡ true → alike p r ≡ true
