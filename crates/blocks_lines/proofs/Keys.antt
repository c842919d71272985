-- The laws of keys: what the table says at each range of keys, what a line of a key consists of, that no line is one of two keys, and how the file from a line on
-- tells a line of a key. What holds of every key is tested over the table by computation. Assumes nothing.
use Prim.Native.Nat.{ℕ, ◌+◌, ◌-◌, ◌≤◌, ◌<◌}
use mathlib.Core.Path.{◌≡◌, refl, sym, ap, ◌∙◌}
use mathlib.Core.Bool.{Bool, true, false, not, ◌&&◌}
use mathlib.Core.List.{List, ◌++◌}
use native.Mathlib.Omega.{arith}
use lib.ListN.{length, take, drop, get_or, length-append, length-take, length-drop, get_or-append}
use lib.Seq.{take-append-le, take-take, drop-drop, get_or-drop}
use lib.Dec.{eqb, leb}
use borrow.Author.Tests.{eqb-true, leb-true, not-false}
use Rattle.base_lists.specs.Ranges.{first_from, first}
use Rattle.base_lists.specs.Strings.{same, prefixed}
use Rattle.base_lists.proofs.Ranges.{and_parts, both, by-test, by-lt, by_last, none_first, first_over}
use Rattle.base_lists.proofs.Strings.{prefixed_true, prefixed_short}
use Rattle.base_scope.specs.Text.{text}
use Rattle.blocks_lines.specs.Lines.{feed_at, line_end, is_whole, line}
use Rattle.blocks_values.specs.Values.{any_sound, line_sound}
use Rattle.blocks_lines.specs.Keys.{keys, key_name, repeats, value_sound, value_at, is_key_line}
use Rattle.base_lists.proofs.Windows.{drop_take, tail_part}
use Rattle.blocks_lines.proofs.Lines.{end_low, le_whole}

-- a test that a search over [a, b) found to hold everywhere
all_pass : (p : ℕ → Bool) (a b k : ℕ) → first (λ i. not (p i)) a b ≡ b → a ≤ k → k < b → p k ≡ true
all_pass p a b k e l u = not-false (p k) (none_first (λ i. not (p i)) a b k e l u)

-- ---- ranges of the table

-- glabel and dummy, asm and late, may stand any number of times; the others may not
pub repeats_middle : (k : ℕ) → 5 ≤ k → k < 7 → repeats k ≡ true
unfolding repeats keys first_from
repeats_middle k l u = all_pass repeats 5 7 k refl l u

pub repeats_late : (k : ℕ) → 8 ≤ k → k < 10 → repeats k ≡ true
unfolding repeats keys first_from
repeats_late k l u = all_pass repeats 8 10 k refl l u

pub repeats_low : (k : ℕ) → k < 5 → repeats k ≡ false
unfolding repeats keys first_from
repeats_low k u = none_first repeats 0 5 k refl (omega arith) u

-- text, data, rodata and bss; asm and late
pub value_section : (k : ℕ) (v : List ℕ) → 0 < k → k < 5 → value_sound k v ≡ line_sound v
unfolding value_sound keys
value_section k v l u =
    by_last k 4 u
    (λ u. by_last k 3 u (λ u. by_last k 2 u (λ u. by_last k 1 u (λ u. absurd (omega arith)) (λ e. rw e)) (λ e. rw e)) (λ e. rw e))
    (λ e. rw e)

pub value_late : (k : ℕ) (v : List ℕ) → 7 < k → k < 10 → value_sound k v ≡ true
unfolding value_sound keys any_sound
value_late k v l u = by_last k 9 u (λ u. by_last k 8 u (λ u. absurd (omega arith)) (λ e. rw e)) (λ e. rw e)

-- what is none of the first ten keys is the last
pub past_four : (k : ℕ) → (k ≡ 0 → ⊥) → (k ≡ 1 → ⊥) → (k ≡ 2 → ⊥) → (k ≡ 3 → ⊥) → (k ≡ 4 → ⊥) → 4 < k
past_four k a b c d e = omega arith

pub last_key : (k : ℕ) → k < 11 → 4 < k → (k ≡ 5 → ⊥) → (k ≡ 6 → ⊥) → (k ≡ 7 → ⊥) → (k ≡ 8 → ⊥) → (k ≡ 9 → ⊥) → k ≡ 10
last_key k u l a b c d e = omega arith

-- ---- a line's key and value, as parts of it

prefix_fits : (p s : List ℕ) → prefixed p s ≡ true → length p ≤ length s
prefix_fits p s t = by-lt (length s) (length p) (λ h. both t (prefixed_short p s h)) (λ h. h)

-- what begins with a prefix does so in any front that is as long
prefixed_front : (p s : List ℕ) (m : ℕ) → length p ≤ m → prefixed p (take m s) ≡ prefixed p s
unfolding prefixed
prefixed_front p s m h = ap (λ (l : List ℕ). same l p) (take-take (length p) m s h)

module _ (B : List ℕ) (k a : ℕ) where
  pub key_line_not : length B ≤ line_end B a → is_key_line B k a ≡ false
  unfolding is_key_line
  key_line_not h = rw (le_whole B a h)

-- ---- lines of a key

pub key_four : (k : ℕ) → k < 11 → 4 ≤ length (key_name k)
unfolding key_name keys text first_from
key_four k u = leb-true _ _ (all_pass (λ i. leb 4 (length (key_name i))) 0 11 k refl (omega arith) u)

-- the first key whose first four bytes are these
key_of : List ℕ → ℕ
key_of s = first (λ i. same (take 4 (key_name i)) s) 0 11

key_told : (k : ℕ) → k < 11 → key_of (take 4 (key_name k)) ≡ k
unfolding key_of key_name keys text first_from same
key_told k u = eqb-true _ _ (all_pass (λ i. eqb (key_of (take 4 (key_name i))) i) 0 11 k refl (omega arith) u)

module _ (B : List ℕ) (k a : ℕ) (t : is_key_line B k a ≡ true) where
  parts : (is_whole B a ≡ true) × (prefixed (key_name k) (line B a) ≡ true) × (value_sound k (value_at B k a) ≡ true)
  unfolding is_key_line
  parts =
      let r = and_parts (is_whole B a) _ t in
      let s = and_parts (prefixed (key_name k) (line B a)) _ r.1 in
      (r.0, s.0, s.1)

  pub key_line_whole : is_whole B a ≡ true
  key_line_whole = parts.0

  pub key_line_text : line B a ≡ key_name k ++ value_at B k a
  unfolding value_at
  key_line_text = prefixed_true (key_name k) (line B a) parts.1

  pub key_line_sound : value_sound k (value_at B k a) ≡ true
  key_line_sound = parts.2

  -- the line's first four bytes are the key's, and they tell the key
  key_line_key : k < 11 → key_of (take 4 (line B a)) ≡ k
  key_line_key u =
      ap key_of (ap (take 4) key_line_text ∙ take-append-le 4 (key_name k) (value_at B k a) (key_four k u)) ∙ key_told k u

pub key_once : (B : List ℕ) (j k a : ℕ) → j < 11 → k < 11 → is_key_line B j a ≡ true → is_key_line B k a ≡ true → j ≡ k
key_once B j k a h u s t = sym (key_line_key B j a s h) ∙ key_line_key B k a t u

-- ---- the file from a line on, where the line's end is not yet known

-- no key has an LF
key_plain : (k : ℕ) → k < 11 → line_end (key_name k) 0 ≡ length (key_name k)
unfolding line_end feed_at key_name keys text first_from
key_plain k u = eqb-true _ _ (all_pass (λ i. eqb (line_end (key_name i) 0) (length (key_name i))) 0 11 k refl (omega arith) u)

module _ (B : List ℕ) (k a : ℕ) where
  -- where it does not begin with the key, the line does not
  pub key_line_other : prefixed (key_name k) (drop a B) ≡ false → is_key_line B k a ≡ false
  unfolding line
  key_line_other f =
      by-test (is_key_line B k a)
      (λ t.
      let m = line_end B a - a in
      let y : prefixed (key_name k) (take m (drop a B)) ≡ true = (parts B k a t).1 in
      let h : length (key_name k) ≤ m = omega (arith, prefix_fits (key_name k) (take m (drop a B)) y, length-take m (drop a B)) in
      both (sym (prefixed_front (key_name k) (drop a B) m h) ∙ y) f)
      (λ n. n)

  module _ (h : a < length B) (t : prefixed (key_name k) (drop a B) ≡ true) where
    pub key_inside : a + length (key_name k) ≤ length B
    key_inside = omega (arith, prefix_fits (key_name k) (drop a B) t, length-drop a B)

    key_byte : (j : ℕ) → j < length (key_name k) → get_or B (a + j) 0 ≡ get_or (key_name k) j 0
    key_byte j l =
        sym (get_or-drop a B j 0)
        ∙ ap (λ (s : List ℕ). get_or s j 0) (prefixed_true (key_name k) (drop a B) t)
        ∙ get_or-append (key_name k) (drop (length (key_name k)) (drop a B)) 0 j l

    -- the line ends where it does from behind the key
    key_over : k < 11 → line_end B a ≡ line_end B (a + length (key_name k))
    unfolding line_end feed_at
    key_over u =
        first_over (feed_at B) a (a + length (key_name k)) (length B) (omega arith) key_inside
        (λ j l g.
        let e : a + (j - a) ≡ j = omega arith in
        ap (λ (i : ℕ). eqb (get_or B i 0) 10) (sym e)
        ∙ ap (λ (x : ℕ). eqb x 10) (key_byte (j - a) (omega arith))
        ∙ none_first (feed_at (key_name k)) 0 (length (key_name k)) (j - a) (key_plain k u) (omega arith) (omega arith))

    -- so the line is its key's if it is whole and what stands between the key and its end, e, is sound
    pub key_line_from : k < 11 → (b e : ℕ) → b ≡ a + length (key_name k) → e ≡ line_end B b
        → (line_end B a ≡ e) × (is_key_line B k a ≡ (is_whole B a && value_sound k (take (e - b) (drop b B))))
    unfolding is_key_line value_at line
    key_line_from u b e from is =
        let n = length (key_name k) in
        let o : line_end B a ≡ e = key_over u ∙ ap (line_end B) (sym from) ∙ sym is in
        let l : b ≤ e = omega (arith, is, end_low B b) in
        let m : line_end B a - a ≡ n + (e - b) = omega (arith, o, from, l) in
        let p : prefixed (key_name k) (take (line_end B a - a) (drop a B)) ≡ true = prefixed_front (key_name k) (drop a B) (line_end B a - a) (omega (arith, m)) ∙ t in
        let v : drop n (take (line_end B a - a) (drop a B)) ≡ take (e - b) (drop b B) =
        ap (λ (w : ℕ). drop n (take w (drop a B))) m ∙ drop_take n (e - b) (drop a B) ∙ ap (take (e - b)) (drop-drop n a B ∙ ap (λ (w : ℕ). drop w B) (sym from)) in
        (o, rw (p, v))

-- ---- the part of a line behind its key: s is the line, n the key's length

module _ (B : List ℕ) (k a : ℕ) (s : List ℕ) (n : ℕ) (is : s ≡ line B a) (key : n ≡ length (key_name k)) where
  pub value_fits : is_key_line B k a ≡ true → n ≤ length s
  value_fits t = rw (key, is, key_line_text B k a t, length-append) (omega arith)

  pub value_part : take (length s - n) (drop n s) ≡ value_at B k a
  unfolding value_at
  value_part = tail_part s n ∙ rw (key, is)
