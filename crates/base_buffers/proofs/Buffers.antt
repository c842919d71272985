-- A buffer with its front zeroed, turn by turn, and what zeroing leaves. Assumes nothing.
use mathlib.Core.Path.{◌≡◌, sym, ap, ◌∙◌}
use mathlib.Core.List.{List, [], ◌∷◌, ◌++◌, append-nil}
use Prim.Native.Nat.{ℕ, zero, suc, ◌+◌, ◌-◌, ◌/◌, ◌≤◌, ◌<◌}
use native.Mathlib.Omega.{arith}
use native.Mathlib.Nat.{zero-add, suc-add}
use lib.ListN.{length, get_or, take, drop, set, replicate, length-replicate, get_or-replicate, length-drop}
use lib.Seq.{drop-length, drop-drop, length-take-le, take_at, get_or-take, get_or-drop, ext_get_or}
use borrow.Author.Fill.{fill_more}
use Rattle.base_lists.specs.Windows.{spliced}
use Rattle.base_lists.proofs.Ranges.{by-lt, by_last}
use Rattle.base_lists.proofs.Windows.{length_part, within_take, spliced_nil, spliced_same, spliced_then, spliced_whole}
use Rattle.base_buffers.specs.Buffers.{zeros, zeroed_from}

module _ (before : List ℕ) (now : List ℕ) (i : ℕ) where
  -- a turn: one more zero at the front
  pub zero_next : i < length before → now ≡ zeros i ++ drop i before → set now i 0 ≡ zeros (i + 1) ++ drop (i + 1) before
  unfolding zeros
  zero_next h e = rw e (fill_more i 0 before h)

  -- the end: all of it
  pub zero_all : i ≡ length before → now ≡ zeros i ++ drop i before → now ≡ zeros (length before)
  unfolding zeros
  zero_all h e = e ∙ rw (h, drop-length before) (append-nil (replicate (length before) 0))

pub length_zeros : (n : ℕ) → length (zeros n) ≡ n
unfolding zeros
length_zeros n = length-replicate n 0

-- a result and zeros behind it: what stands in a buffer whose front was written and whose rest was zeroed
pub zeroed_result : (l s rest : List ℕ) (n : ℕ) → l ≡ s ++ rest → length s ≡ n → zeroed_from l n ≡ s ++ zeros (length l - n)
unfolding zeroed_from
zeroed_result l s rest n e h =
    let t : take n l ≡ s = rw e (take_at s rest n h) in
    rw t

-- the part from a on, zeroed and put back
pub part_zeroed : (l part : List ℕ) (a k : ℕ) → a ≤ length l → k ≡ length l - a → part ≡ zeros (length (take k (drop a l))) → take a l ++ (part ++ drop k (drop a l)) ≡ zeroed_from l a
unfolding zeroed_from
part_zeroed l part a k h n e =
    let d : length (drop a l) ≡ k = simp length-drop (omega arith) in
    let t : length (take k (drop a l)) ≡ k = length-take-le k (drop a l) (omega arith) in
    let z : drop k (drop a l) ≡ [] = rw (← d) (drop-length (drop a l)) in
    rw (z, e, t, n, append-nil)

-- ---- stretch by stretch

zeros_add : (i n : ℕ) → zeros i ++ zeros n ≡ zeros (i + n)
unfolding zeros
zeros_add zero n = ap (λ (k : ℕ). replicate k 0) (sym (zero-add n))
zeros_add (suc i) n = ap (λ (l : List ℕ). 0 ∷ l) (zeros_add i n) ∙ ap (λ (k : ℕ). replicate k 0) (sym (suc-add i n))

-- one more byte that a higher top is not below
pub top_next : (l : List ℕ) (a i top r : ℕ) → ((j : ℕ) → j < i → get_or l (a + j) 0 ≤ top) → top ≤ r → get_or l (a + i) 0 ≤ r → (j : ℕ) → j < i + 1 → get_or l (a + j) 0 ≤ r
top_next l a i top r low up here j h = by_last j i (omega arith) (λ u. omega (arith, low j u, up)) (λ e. rw e here)

-- a byte that no byte of either half passes, nor the last
pub halves_top : (l : List ℕ) (a n half front back last r : ℕ) → half ≡ n / 2 → ((j : ℕ) → j < half → get_or l (a + j) 0 ≤ front) → ((j : ℕ) → j < half → get_or l (a + half + j) 0 ≤ back)
    → ((j : ℕ) → j < n → n ≤ j + 1 → get_or l (a + j) 0 ≤ last) → front ≤ r → back ≤ r → last ≤ r → (j : ℕ) → j < n → get_or l (a + j) 0 ≤ r
halves_top l a n half front back last r e p q w f b k j h = by-lt j half
    (λ u. omega (arith, p j u, f))
    (λ u. by-lt j (half + half)
    (λ v.
    let g : a + half + (j - half) ≡ a + j = omega arith in
    let t : get_or l (a + j) 0 ≤ back = rw g at (q (j - half) (omega arith)) in
    omega (arith, t, b))
    (λ v. omega (arith, w j h (omega (arith, e)), k)))

-- bytes that 0 is not below are zero
pub bytes_zero : (l : List ℕ) (a n r : ℕ) → a + n ≤ length l → r ≡ 0 → ((j : ℕ) → j < n → get_or l (a + j) 0 ≤ r) → take n (drop a l) ≡ zeros n
unfolding zeros
bytes_zero l a n r h z low =
    let t : length (take n (drop a l)) ≡ n = length_part l a n h in
    ext_get_or 0 (take n (drop a l)) (replicate n 0) (t ∙ sym (length-replicate n 0)) (λ j u.
    let k : j < n = rw t at u in
    get_or-take n (drop a l) j 0 k ∙ get_or-drop a l j 0 ∙ omega (arith, low j k, z) ∙ sym (get_or-replicate n j 0 0 k))

-- such bytes, kept or written
pub part_kept : (l : List ℕ) (a n : ℕ) → a + n ≤ length l → take n (drop a l) ≡ zeros n → l ≡ spliced l a (zeros n)
part_kept l a n h e = sym (spliced_same l a (zeros n) (rw e at (within_take l a n h)))

pub part_cleared : (l part : List ℕ) (a n k : ℕ) → a + n ≤ length l → k ≡ n → part ≡ zeros (length (take k (drop a l))) → take a l ++ (part ++ drop k (drop a l)) ≡ spliced l a (zeros n)
unfolding spliced
part_cleared l part a n k h is e =
    let t : length (take n (drop a l)) ≡ n = length_part l a n h in
    rw (e, is, t, drop-drop n a l, length_zeros n)

-- the front that was passed is zero
pub front_none : (l : List ℕ) → l ≡ spliced l 0 (zeros 0)
unfolding zeros
front_none l = sym (spliced_nil l 0)

pub front_next : (l m k : List ℕ) (i n : ℕ) → i + n ≤ length l → m ≡ spliced l 0 (zeros i) → k ≡ spliced m i (zeros n) → k ≡ spliced l 0 (zeros (i + n))
front_next l m k i n h e put =
    put ∙ ap (λ (x : List ℕ). spliced x i (zeros n)) e
    ∙ spliced_then l 0 (zeros i) (zeros n) i (omega (arith, length_zeros i)) (rw (length_zeros n) h)
    ∙ ap (spliced l 0) (zeros_add i n)

pub front_all : (l m : List ℕ) (i : ℕ) → i ≡ length l → m ≡ spliced l 0 (zeros i) → m ≡ zeros (length l)
front_all l m i h e = e ∙ rw h (spliced_whole l (zeros (length l)) (length_zeros (length l)))
