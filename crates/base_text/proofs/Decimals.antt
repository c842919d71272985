-- The laws of decimal digits: the turns of the loop that stores them, how many there are, and that reading them gives the number back. Assumes nothing.
use Prim.Native.Nat.{ℕ, zero, suc, ◌+◌, ◌-◌, ◌*◌, ◌/◌, ◌%◌, ◌^◌, ◌≤◌, ◌<◌}
use mathlib.Core.Path.{◌≡◌, refl, sym, ap, ◌∙◌}
use mathlib.Core.List.{List, [], ◌∷◌, ◌++◌, append_assoc, append-nil}
use native.Mathlib.Nat.{pow-suc}
use native.Mathlib.Numerals.{add-one}
use native.Mathlib.Omega.{arith}
use lib.ListN.{length, take, drop, set, length-append, drop_of_length-le}
use lib.Seq.{set_split, drop_at, length-take-le}
use borrow.Author.Tests.{lt-ltb, le-ltb}
use Rattle.base_lists.proofs.Ranges.{by-lt}
use Rattle.base_lists.proofs.Windows.{tail_part}
use Rattle.base_text.specs.Decimals.{decimal_from, decimal, digits_text, decimal_text}

pub digits_last : (k n : ℕ) → n < 10 → digits_text k n ≡ (48 + n) ∷ []
unfolding digits_text
digits_last zero n h = refl
digits_last (suc k) n h = rw (lt-ltb n 10 h)

pub digits_next : (k n : ℕ) → 0 < k → 10 ≤ n → digits_text k n ≡ digits_text (k - 1) (n / 10) ++ ((48 + n % 10) ∷ [])
unfolding digits_text
digits_next zero n p h = absurd (omega arith)
digits_next (suc k) n p h =
    let e : suc k - 1 ≡ k = omega arith in
    rw (e, le-ltb n 10 h)

-- a number of k + 1 digits has a last digit, or one in front of it, and then k digits are left
digits_left : (k n : ℕ) → 10 ≤ n → n < 10 ^ (k + 1) → (0 < k) × (n / 10 < 10 ^ (k - 1 + 1))
digits_left zero n l u = absurd (omega arith)
digits_left (suc k) n l u =
    let e : suc k - 1 + 1 ≡ k + 1 = omega arith in
    let p : 10 ^ (suc k + 1) ≡ 10 ^ (k + 1) * 10 = ap (λ (j : ℕ). 10 ^ j) (add-one (suc k) ∙ ap suc (sym (add-one k))) ∙ pow-suc 10 (k + 1) in
    (omega arith, rw e (omega arith))

-- a byte stored in front of what is dropped
pub drop_set : (l : List ℕ) (i x : ℕ) → i < length l → drop i (set l i x) ≡ x ∷ drop (i + 1) l
drop_set l i x h = ap (drop i) (set_split l i x h) ∙ drop_at (take i l) (x ∷ drop (suc i) l) i (length-take-le i l (omega arith)) ∙ rw add-one

-- before the first turn of a loop that stores the digits of n none is stored
pub digits_start : (n : ℕ) (d : List ℕ) → length d ≡ 10 → decimal_text n ≡ digits_text 9 n ++ drop 10 d
unfolding decimal_text
digits_start n d e = sym (ap (λ (x : List ℕ). digits_text 9 n ++ x) (drop_of_length-le d {i = 10} (omega arith)) ∙ append-nil (digits_text 9 n))

-- a turn of the loop that stores digits in front of those stored before, from the last digit on; and its end
module _ (n i m : ℕ) (d : List ℕ) (h : i < length d) (left : decimal_text n ≡ digits_text i m ++ drop (i + 1) d) where
  pub digits_turn : 10 ≤ m → m < 10 ^ (i + 1)
      → (0 < i) × (m / 10 < 10 ^ (i - 1 + 1)) × (decimal_text n ≡ digits_text (i - 1) (m / 10) ++ drop (i - 1 + 1) (set d i (48 + m % 10)))
  digits_turn l u =
      let r = digits_left i m l u in
      let k : 0 < i = r.0 in
      let e : i - 1 + 1 ≡ i = omega arith in
      (k, r.1, left ∙ rw (digits_next i m k l, append_assoc, e, drop_set d i (48 + m % 10) h))

  pub digits_end : m < 10 → drop i (set d i (48 + m)) ≡ decimal_text n
  digits_end u = drop_set d i (48 + m) h ∙ sym (left ∙ rw (digits_last i m u))

-- the digits stored, read as the part from the first of them to the end
pub digits_part : (n i : ℕ) (d : List ℕ) → length d ≡ 10 → drop i d ≡ decimal_text n → take (10 - i) (drop i d) ≡ decimal_text n
digits_part n i d e stored = ap (λ (j : ℕ). take (j - i) (drop i d)) (sym e) ∙ tail_part d i ∙ stored

length_digits : (k n : ℕ) → (1 ≤ length (digits_text k n)) × (length (digits_text k n) ≤ k + 1)
unfolding digits_text
length_digits zero n = (omega arith, omega arith)
length_digits (suc k) n = by-lt n 10
    (λ h. rw (lt-ltb n 10 h) (omega arith, omega arith))
    (λ h.
    let e : length (digits_text k (n / 10) ++ ((48 + n % 10) ∷ [])) ≡ length (digits_text k (n / 10)) + 1 = length-append (digits_text k (n / 10)) ((48 + n % 10) ∷ []) in
    rw (le-ltb n 10 h) (omega (arith, e, length_digits k (n / 10)), omega (arith, e, length_digits k (n / 10))))

pub decimal_some : (n : ℕ) → 1 ≤ length (decimal_text n)
unfolding decimal_text
decimal_some n = (length_digits 9 n).0

pub decimal_short : (n : ℕ) → length (decimal_text n) ≤ 10
unfolding decimal_text
decimal_short n = (length_digits 9 n).1

-- ---- reading them gives the number back

from_append : (n : ℕ) (v w : List ℕ) → decimal_from n (v ++ w) ≡ decimal_from (decimal_from n v) w
unfolding decimal_from
from_append n [] w = refl
from_append n (x ∷ v) w = from_append (n * 10 + (x - 48)) v w

from_digits : (k n : ℕ) → n < 10 ^ (k + 1) → decimal (digits_text k n) ≡ n
unfolding decimal_from
from_digits zero n h = rw (digits_last zero n h) (omega arith)
from_digits (suc k) n h = by-lt n 10
    (λ u. rw (digits_last (suc k) n u) (omega arith))
    (λ u.
    let r = digits_left (suc k) n u h in
    let e : suc k - 1 ≡ k = omega arith in
    let b : n / 10 < 10 ^ (k + 1) = rw e at r.1 in
    rw (digits_next (suc k) n (omega arith) u, e, from_append 0 (digits_text k (n / 10)) ((48 + n % 10) ∷ []), from_digits k (n / 10) b) (omega arith))

pub decimal_text_lem : (n : ℕ) → n < 10 ^ 10 → decimal (decimal_text n) ≡ n
unfolding decimal_text
decimal_text_lem n h = from_digits 9 n h
