-- The laws of refusal 1: a limit that is broken decides it, one that is kept leaves the rest to decide, and where none decides every limit is kept. Assumes nothing.
use Prim.Native.Nat.{ℕ, ◌≤◌, ◌<◌}
use mathlib.Core.Path.{◌≡◌, refl}
use mathlib.Core.Bool.{true, false}
use mathlib.Core.List.{List, [], ◌∷◌}
use lib.Dec.{ltb}
use borrow.Author.Tests.{lt-ltb, le-ltb, ltb-false}
use Rattle.base_lists.proofs.Ranges.{or_parts}
use Rattle.base_scope.specs.Limits.{Bound, at_most, at_least, is_broken, over_limits, Kept}

module _ (limit n : ℕ) (rest : List Bound) where
  pub over_most : limit < n → over_limits (at_most limit n ∷ rest) ≡ true
  unfolding over_limits is_broken
  over_most h = rw (lt-ltb _ _ h)

  pub over_least : n < limit → over_limits (at_least limit n ∷ rest) ≡ true
  unfolding over_limits is_broken
  over_least h = rw (lt-ltb _ _ h)

  pub kept_most : n ≤ limit → over_limits (at_most limit n ∷ rest) ≡ over_limits rest
  unfolding over_limits is_broken
  kept_most h = rw (le-ltb _ _ h)

  pub kept_least : limit ≤ n → over_limits (at_least limit n ∷ rest) ≡ over_limits rest
  unfolding over_limits is_broken
  kept_least h = rw (le-ltb _ _ h)

-- no limit of an empty list is broken
pub over_none : over_limits [] ≡ false
unfolding over_limits
over_none = refl

pub unbroken : (b : Bound) → is_broken b ≡ false → Kept b
unfolding is_broken Kept
unbroken (at_most limit n) e = ltb-false _ _ e
unbroken (at_least limit n) e = ltb-false _ _ e

-- the first limit of a list that has none broken is kept, and the rest has none broken either
pub in_limits : (b : Bound) (rest : List Bound) → over_limits (b ∷ rest) ≡ false → Kept b × (over_limits rest ≡ false)
unfolding over_limits
in_limits b rest e =
    let parts = or_parts (is_broken b) _ e in
    (unbroken b parts.0, parts.1)
