-- The turns of the loop that compares a string with a prefix: the bytes passed over are equal, so the string begins with it where the rests agree. Assumes nothing.
use Prim.Native.Nat.{ℕ, ◌+◌, ◌≤◌, ◌<◌}
use mathlib.Core.Path.{◌≡◌, refl, ◌∙◌}
use mathlib.Core.Bool.{true, false}
use mathlib.Core.List.{List}
use native.Mathlib.Omega.{arith}
use lib.ListN.{length, take, drop, get_or}
use lib.Seq.{get_or-take, length-take-le}
use Rattle.base_lists.specs.Strings.{same, prefixed}
use Rattle.base_lists.proofs.Strings.{same_next, same_not, same_end}

module _ (p s : List ℕ) where
  pub prefix_start : prefixed p s ≡ same (drop 0 (take (length p) s)) (drop 0 p)
  unfolding prefixed
  prefix_start = refl

module _ (p s : List ℕ) (i : ℕ) (h : length p ≤ length s) where
  pub prefix_next : i < length p → get_or s i 0 ≡ get_or p i 0
      → same (drop i (take (length p) s)) (drop i p) ≡ same (drop (i + 1) (take (length p) s)) (drop (i + 1) p)
  prefix_next l e = same_next (take (length p) s) p i (rw (length-take-le (length p) s h) l) l (get_or-take (length p) s i 0 l ∙ e)

  pub prefix_not : i < length p → (get_or s i 0 ≡ get_or p i 0 → ⊥) → same (drop i (take (length p) s)) (drop i p) ≡ false
  prefix_not l d = same_not (take (length p) s) p i (rw (length-take-le (length p) s h) l) l (rw (get_or-take (length p) s i 0 l) d)

  pub prefix_end : length p ≤ i → same (drop i (take (length p) s)) (drop i p) ≡ true
  prefix_end l = same_end (take (length p) s) p i (rw (length-take-le (length p) s h) l) l
