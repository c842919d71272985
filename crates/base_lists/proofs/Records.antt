-- Records of one width are read back as they were written: the first record is the first w bytes, and the rest follows by the same step.
-- Assumes nothing.
use mathlib.Core.Path.{◌≡◌, refl, sym, ap, ◌∙◌}
use mathlib.Core.List.{List, [], ◌∷◌, ◌++◌, map, append_assoc, append-nil}
use Prim.Native.Nat.{ℕ, zero, suc, ◌+◌, ◌*◌, ◌≤◌, ◌<◌}
use native.Mathlib.Nat.{mul-zero, mul-suc, mul-add, mul-one, mul-div_cancel_left, mul-le-mul_left}
use native.Mathlib.Numerals.{add-one}
use native.Mathlib.Omega.{arith}
use lib.ListN.{length, take, drop, get_or, length-append}
use lib.Seq.{take_at, drop_at, take-suc, drop-drop, length-take-le}
use Rattle.base_lists.specs.Windows.{Within, spliced}
use Rattle.base_lists.specs.Records.{flat, read_n, read_all}
use Rattle.base_lists.proofs.Windows.{within_first, within_left, within_at, within_read, spliced_then}

module _ {A : Type 0} (encode : A → List ℕ) where
  pub flat_append : (xs ys : List A) → flat encode (xs ++ ys) ≡ flat encode xs ++ flat encode ys
  unfolding flat
  flat_append [] ys = refl
  flat_append (x ∷ xs) ys = rw (flat_append xs ys, append_assoc)

  pub flat_none : flat encode [] ≡ []
  unfolding flat
  flat_none = refl

  pub flat_one : (x : A) → flat encode (x ∷ []) ≡ encode x
  unfolding flat
  flat_one x = append-nil (encode x)

  pub flat_cons : (x : A) (xs : List A) → flat encode (x ∷ xs) ≡ encode x ++ flat encode xs
  unfolding flat
  flat_cons x xs = refl

  -- a turn of a loop that writes one more
  pub flat_next : (xs : List A) (i : ℕ) (d : A) → i < length xs → flat encode (take (i + 1) xs) ≡ flat encode (take i xs) ++ encode (get_or xs i d)
  flat_next xs i d h = rw (add-one i, take-suc xs i d, flat_append, flat_one)

  module _ (w : ℕ) (fixed : (x : A) → length (encode x) ≡ w) where
    pub length_flat : (xs : List A) → length (flat encode xs) ≡ w * length xs
    length_flat [] = rw (flat_none, mul-zero w)
    length_flat (x ∷ xs) = rw (flat_cons x xs, length-append, fixed x, length_flat xs, mul-suc) (omega arith)

    -- record k stands at w * k
    pub within_flat : (xs : List A) (k : ℕ) (d : A) → k < length xs → Within (encode (get_or xs k d)) (w * k) (flat encode xs)
    within_flat [] k d h = absurd (omega arith)
    within_flat (x ∷ xs) zero d h = rw (flat_cons x xs, mul-zero w) (within_first (encode x) (flat encode xs))
    within_flat (x ∷ xs) (suc k) d h =
        let e : length (encode x) + w * k ≡ w * suc k = rw (fixed x, mul-suc) (omega arith) in
        rw (flat_cons x xs) (within_at (encode (get_or xs k d)) (encode x ++ flat encode xs) (length (encode x) + w * k) (w * suc k) e
        (within_left (encode (get_or xs k d)) (encode x) (flat encode xs) (w * k) (within_flat xs k d (omega arith))))

    pub flat_at : (xs : List A) (k : ℕ) (d : A) → k < length xs → take w (drop (w * k) (flat encode xs)) ≡ encode (get_or xs k d)
    flat_at xs k d h =
        ap (λ (n : ℕ). take n (drop (w * k) (flat encode xs))) (sym (fixed (get_or xs k d)))
        ∙ within_read (encode (get_or xs k d)) (flat encode xs) (w * k) (within_flat xs k d h)

    -- a turn of a loop that writes record i behind those before it
    pub spliced_record : (l : List ℕ) (o : ℕ) (xs : List A) (i : ℕ) (d : A) → o + w * length xs ≤ length l → i < length xs
        → spliced (spliced l o (flat encode (take i xs))) (o + w * i) (encode (get_or xs i d)) ≡ spliced l o (flat encode (take (i + 1) xs))
    spliced_record l o xs i d h k =
        let e : o + w * i ≡ o + length (flat encode (take i xs)) = rw (length_flat (take i xs), length-take-le i xs (omega arith)) in
        let m : w * (i + 1) ≤ w * length xs = mul-le-mul_left w (omega arith) in
        let n : w * (i + 1) ≡ w * i + w = rw (mul-add, mul-one) in
        let f : o + w * i + length (encode (get_or xs i d)) ≤ length l = rw (fixed (get_or xs i d)) (omega arith) in
        spliced_then l o (flat encode (take i xs)) (encode (get_or xs i d)) (o + w * i) e f ∙ rw (flat_next xs i d k)

    module _ (decode : List ℕ → A) where
      read_n_flat : (xs : List A) → read_n w decode (length xs) (flat encode xs) ≡ map (λ x. decode (encode x)) xs
      unfolding read_n
      read_n_flat [] = refl
      read_n_flat (x ∷ xs) = rw (flat_cons x xs, take_at (encode x) (flat encode xs) w (fixed x), drop_at (encode x) (flat encode xs) w (fixed x), read_n_flat xs)

      pub read_flat : 0 < w → (xs : List A) → read_all w decode (flat encode xs) ≡ map (λ x. decode (encode x)) xs
      unfolding read_all
      read_flat h xs = rw (length_flat xs, mul-div_cancel_left) (read_n_flat xs)

      -- where each decodes to itself, the same list is read
      pub read_back : 0 < w → ((x : A) → decode (encode x) ≡ x) → (xs : List A) → read_all w decode (flat encode xs) ≡ xs
      read_back h same xs = read_flat h xs ∙ each xs
        where
          each : (ys : List A) → map (λ x. decode (encode x)) ys ≡ ys
          each [] = refl
          each (y ∷ ys) = rw (same y, each ys)

-- the k-th record that is read is the one at w * k, and as many are read as asked
pub length_read_n : {A : Type 0} (w : ℕ) (decode : List ℕ → A) (n : ℕ) (l : List ℕ) → length (read_n w decode n l) ≡ n
unfolding read_n
length_read_n w decode zero l = refl
length_read_n w decode (suc n) l = rw (length_read_n w decode n (drop w l))

pub read_n_at : {A : Type 0} (w : ℕ) (decode : List ℕ → A) (n : ℕ) (l : List ℕ) (k : ℕ) (d : A) → k < n → get_or (read_n w decode n l) k d ≡ decode (take w (drop (w * k) l))
unfolding read_n
read_n_at w decode zero l k d h = absurd (omega arith)
read_n_at w decode (suc n) l zero d h = rw (mul-zero w)
read_n_at w decode (suc n) l (suc k) d h =
    let e : w + w * k ≡ w * suc k = rw mul-suc (omega arith) in
    read_n_at w decode n (drop w l) k d (omega arith) ∙ rw (drop-drop (w * k) w l, e)
