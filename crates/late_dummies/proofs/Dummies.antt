-- The laws of the search for a dummy: the turns of its loop, what a place in a part of .rodata is in the whole, what the search tells of the bytes, and the
-- cases of a late word's place. Assumes nothing.
use Rattle.std.specs.Prelude.{None, Some}
use Prim.Native.Nat.{ℕ, ◌+◌, ◌-◌, ◌≤◌, ◌<◌}
use mathlib.Core.Path.{◌≡◌, sym, ap, ◌∙◌}
use mathlib.Core.Bool.{Bool, true, false, ◌&&◌}
use mathlib.Core.List.{List}
use native.Mathlib.Nat.{add-zero}
use native.Mathlib.Omega.{arith}
use lib.ListN.{length, take, drop, length-drop}
use lib.Seq.{drop-drop, take_all}
use lib.Dec.{eqb, leb, ltb}
use borrow.Author.Tests.{lt-ltb, le-ltb, le-leb, lt-leb, ltb-false}
use Rattle.base_lists.specs.Ranges.{first}
use Rattle.base_lists.proofs.Ranges.{by-test, by-lt, both, and_parts, and_true, first_here, first_next, first_end, first_is, first_low_lem, first_high, first_ext, first_shift}
use Rattle.base_fields.specs.declared.ByteOrder.{ByteOrder}
use Rattle.base_fields.specs.Numbers.{number}
use Rattle.base_fields.proofs.Numbers.{number_same}
use Rattle.late_dummies.specs.Dummies.{word_at, found, shifts, placed, is_lost}
use Rattle.late_dummies.specs.Spots.{shift_spot, spot}

module _ (o : ByteOrder) (R : List ℕ) where
  pub word_is : (w k n : ℕ) → n ≡ number o 4 R k → eqb n w ≡ word_at o R w k
  unfolding word_at
  word_is w k n e = rw e

  -- ---- the search

  module _ (w : ℕ) where
    -- the turns of its loop
    pub found_here : (i : ℕ) → 4 ≤ length R - i → word_at o R w i ≡ true → found o R i w ≡ i
    unfolding found
    found_here i h t = first_here (word_at o R w) i (length R - 3) (omega arith) t

    pub found_next : (i : ℕ) → 4 ≤ length R - i → word_at o R w i ≡ false → found o R i w ≡ found o R (i + 1) w
    unfolding found
    found_next i h f = first_next (word_at o R w) i (length R - 3) (omega arith) f

    pub found_end : (i : ℕ) → length R - i < 4 → found o R i w ≡ i
    unfolding found
    found_end i h = first_end (word_at o R w) i (length R - 3) (omega arith)

    pub found_low : (last : ℕ) → last ≤ found o R last w
    unfolding found
    found_low last = first_low_lem (word_at o R w) last (length R - 3)

    pub found_high : (last : ℕ) → last ≤ length R → found o R last w ≤ length R
    unfolding found
    found_high last h = by-lt last (length R - 3)
        (λ l. omega (arith, first_high (word_at o R w) last (length R - 3) (omega arith)))
        (λ l. rw (first_end (word_at o R w) last (length R - 3) l) h)

    -- what is found is the word, and it stands at no earlier place; where fewer than four bytes are left, it stands nowhere from `last` on
    pub found_word : (last : ℕ) → found o R last w + 4 ≤ length R → word_at o R w (found o R last w) ≡ true
    unfolding found
    found_word last h =
        let l = first_low_lem (word_at o R w) last (length R - 3) in
        (first_is (word_at o R w) last (length R - 3) (omega arith)).here (omega arith)

    pub found_first : (last j : ℕ) → last ≤ j → j < found o R last w → j + 4 ≤ length R → word_at o R w j ≡ false
    unfolding found
    found_first last j l u h = (first_is (word_at o R w) last (length R - 3) (omega arith)).below j l u

-- ---- a part, and bytes that agree

-- a place in the part of .rodata from `last` on is `last` further in the whole
word_drop : (o : ByteOrder) (R : List ℕ) (w last k : ℕ) → word_at o (drop last R) w k ≡ word_at o R w (last + k)
unfolding word_at
word_drop o R w last k = rw (number_same o 4 (drop last R) R k (last + k) (ap (take 4) (drop-drop k last R)))

pub found_part : (o : ByteOrder) (R : List ℕ) (last w : ℕ) → last ≤ length R → last + found o (drop last R) 0 w ≡ found o R last w
unfolding found
found_part o R last w h =
    let n : length (drop last R) ≡ length R - last = length-drop last R in
    let e : first (word_at o (drop last R) w) 0 (length R - last - 3) ≡ first (λ k. word_at o R w (last + k)) 0 (length R - last - 3) =
    first_ext _ _ 0 (length R - last - 3) (λ j l u. word_drop o R w last j) in
    rw (n, e) (sym (first_shift (word_at o R w) last 0 (length R - last - 3)) ∙ rw (add-zero last) (by-lt last (length R - 3)
    (λ l. let m : last + (length R - last - 3) ≡ length R - 3 = omega arith in rw m)
    (λ l.
    let m : last + (length R - last - 3) ≤ last = omega arith in
    first_end (word_at o R w) last (last + (length R - last - 3)) m ∙ sym (first_end (word_at o R w) last (length R - 3) l))))

-- the answer of the finder, to which the part from `last` on was handed
pub found_tail : (o : ByteOrder) (R : List ℕ) (last w r : ℕ) → last ≤ length R → r ≡ found o (take (length R - last) (drop last R)) 0 w
    → last + r ≡ found o R last w
found_tail o R last w r h e =
    let t : take (length R - last) (drop last R) ≡ drop last R = take_all (length R - last) (drop last R) (rw length-drop (omega arith)) in
    rw (e, t) (found_part o R last w h)

-- two byte strings of one length that are equal from a on are searched alike from every place past it
module _ (o : ByteOrder) (R S : List ℕ) (a : ℕ) (long : length R ≡ length S) (agree : drop a R ≡ drop a S) where
  pub word_agree : (w k : ℕ) → a ≤ k → word_at o R w k ≡ word_at o S w k
  word_agree w k h =
      let e : k ≡ a + (k - a) = omega arith in
      rw e (sym (word_drop o R w a (k - a)) ∙ ap (λ (l : List ℕ). word_at o l w (k - a)) agree ∙ word_drop o S w a (k - a))

  pub found_agree : (last w : ℕ) → a ≤ last → found o R last w ≡ found o S last w
  unfolding found
  found_agree last w h = rw long (first_ext (word_at o R w) (word_at o S w) last (length S - 3) (λ j l u. word_agree w j (omega arith)))

-- ---- the place of a late word

module _ (o : ByteOrder) (R : List ℕ) (many : Bool) (last w : ℕ) where
  pub placed_low : found o R last w ≤ placed o R many last w
  unfolding placed
  placed_low = by-test (shifts o R many last w) (λ t. rw t (omega arith)) (λ f. rw f (omega arith))

  pub placed_past : last ≤ placed o R many last w
  placed_past = omega (arith, found_low o R w last, placed_low)

  -- a dummy that is not lost leaves room for its late word
  pub placed_fits : is_lost o R many last w ≡ false → placed o R many last w + 4 ≤ length R
  unfolding is_lost placed shifts
  placed_fits f = by-test (ltb (length R) (found o R last w + 4))
      (λ t. both (rw t) f)
      (λ n. by-test many
      (λ t. by-test (ltb (length R) (found o R last w + 8))
      (λ u. both (rw (n, t, u)) f)
      (λ u.
      let h : found o R last w + 8 ≤ length R = ltb-false _ _ u in
      rw t (by-test (word_at o R 0 (found o R last w + 4)) (λ y. rw y (omega arith)) (λ y. rw y (omega arith)))))
      (λ t. rw t (ltb-false _ _ n)))

  shifts_many : shifts o R many last w ≡ true → many ≡ true
  unfolding shifts
  shifts_many t = (and_parts many _ t).0

  pub placed_shifted : shifts o R many last w ≡ true → placed o R many last w ≡ found o R last w + 4
  unfolding placed
  placed_shifted t = rw t

  -- a dummy that moved on stands right before its place, at or past `last`
  shift_yes_told : is_lost o R many last w ≡ false → shifts o R many last w ≡ true
      → (leb (last + 4) (placed o R many last w) && word_at o R w (placed o R many last w - 4)) ≡ true
  shift_yes_told f t =
      let e = placed_shifted t in
      let q : placed o R many last w - 4 ≡ found o R last w = omega (arith, e) in
      let h : found o R last w + 4 ≤ length R = omega (arith, e, placed_fits f) in
      let l : last + 4 ≤ placed o R many last w = omega (arith, e, found_low o R w last) in
      rw (le-leb (last + 4) (placed o R many last w) l, q) (found_word o R w last h)

  -- one that did not stands at its place and nowhere before it
  shift_no_told : is_lost o R many last w ≡ false → shifts o R many last w ≡ false
      → (leb (last + 4) (placed o R many last w) && word_at o R w (placed o R many last w - 4)) ≡ false
  unfolding placed
  shift_no_told f n =
      let g = placed_fits f in
      rw n (by-lt (found o R last w) (last + 4)
      (λ h. rw (lt-leb (last + 4) (found o R last w) h))
      (λ h.
      let u = found_first o R w last (found o R last w - 4) (omega arith) (omega arith) (omega (arith, rw n at g)) in
      rw (le-leb (last + 4) (found o R last w) h, u)))

  pub shift_told : is_lost o R many last w ≡ false
      → shifts o R many last w ≡ (many && (leb (last + 4) (placed o R many last w) && word_at o R w (placed o R many last w - 4)))
  shift_told f = by-test (shifts o R many last w)
      (λ t. t ∙ sym (and_true many _ (shifts_many t) (shift_yes_told f t)))
      (λ n. n ∙ sym (rw (shift_no_told f n) (by-test many (λ t. rw t) (λ t. rw t))))

  -- the answers of the search
  pub spot_lost : length R < found o R last w + 4 → None ≡ spot o R many last w
  unfolding spot is_lost
  spot_lost h = rw (lt-ltb _ _ h)

  pub spot_many : found o R last w + 4 ≤ length R → many ≡ true → shift_spot o R (found o R last w) ≡ spot o R many last w
  unfolding spot shift_spot is_lost placed shifts
  spot_many h t = rw (le-ltb _ _ h, t)

  pub spot_one : found o R last w + 4 ≤ length R → many ≡ false → Some (found o R last w) ≡ spot o R many last w
  unfolding spot is_lost placed shifts
  spot_one h f = rw (le-ltb _ _ h, f)

module _ (o : ByteOrder) (R : List ℕ) (at : ℕ) where
  pub shift_lost : length R < at + 8 → None ≡ shift_spot o R at
  unfolding shift_spot
  shift_lost h = rw (lt-ltb _ _ h)

  pub shift_yes : at + 8 ≤ length R → word_at o R 0 (at + 4) ≡ true → Some (at + 4) ≡ shift_spot o R at
  unfolding shift_spot
  shift_yes h t = rw (le-ltb _ _ h, t)

  pub shift_no : at + 8 ≤ length R → word_at o R 0 (at + 4) ≡ false → Some at ≡ shift_spot o R at
  unfolding shift_spot
  shift_no h f = rw (le-ltb _ _ h, f)
