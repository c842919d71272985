-- A name that ends apart from a string is not the string. Assumes nothing.
use Prim.Native.Nat.{ℕ, ◌+◌, ◌-◌, ◌<◌, ◌≤◌}
use mathlib.Core.Path.{◌≡◌, refl, sym}
use mathlib.Core.Bool.{Bool, true, false, not, ◌&&◌}
use mathlib.Core.List.{List}
use native.Mathlib.Omega.{arith}
use lib.ListN.{length, get_or}
use lib.Dec.{eqb, leb, ltb}
use borrow.Author.Tests.{lt-ltb, le-leb, lt-leb, eq-eqb, ltb-true}
use Rattle.base_lists.specs.Strings.{same, name_at}
use Rattle.base_lists.proofs.Ranges.{both, and_parts}
use Rattle.base_lists.proofs.Strings.{name_is_apart}
use Rattle.base_names.specs.Ends.{ends_apart}

and_none : (a b : Bool) → b ≡ false → (a && b) ≡ false
and_none true b e = e
and_none false b e = refl

module _ (t : List ℕ) (at : ℕ) (s : List ℕ) where
  -- the tests, one by one
  pub ends_none : length s ≡ 0 → false ≡ ends_apart t at s
  unfolding ends_apart
  ends_none e = rw e

  pub ends_past : length t < at + length s → false ≡ ends_apart t at s
  unfolding ends_apart
  ends_past h = sym (and_none (ltb 0 (length s)) _ (rw (lt-leb (at + length s) (length t) h)))

  pub ends_by : 0 < length s → at + length s ≤ length t → not (eqb (get_or t (at + (length s - 1)) 0) (get_or s (length s - 1) 0)) ≡ ends_apart t at s
  unfolding ends_apart
  ends_by h g = rw (lt-ltb _ _ h, le-leb _ _ g)

  -- what follows
  module _ (apart : ends_apart t at s ≡ true) where
    some : 0 < length s
    unfolding ends_apart
    some = ltb-true _ _ (and_parts (ltb 0 (length s)) _ apart).0

    differ : get_or t (at + (length s - 1)) 0 ≡ get_or s (length s - 1) 0 → ⊥
    unfolding ends_apart
    differ e = both (and_parts (leb (at + length s) (length t)) _ (and_parts (ltb 0 (length s)) _ apart).1).1 (rw (eq-eqb _ _ e))

    pub apart_name : same (name_at t at) s ≡ false
    apart_name = name_is_apart t s at (length s - 1) (omega (arith, some)) differ
