-- The laws of a draft's lines: how long each is, what a turn of each loop adds, and that the lines of a group are shorter than their part of the
-- block file. The first follow from the definitions; a key has at least four bytes, and a line's value and LF replace the line and its LF.
-- Assumes nothing.
use Prim.Native.Nat.{ℕ, zero, suc, ◌+◌, ◌-◌, ◌*◌, ◌≤◌, ◌<◌}
use mathlib.Core.Path.{◌≡◌, refl, ap, ◌∙◌}
use mathlib.Core.Bool.{true, false}
use mathlib.Core.List.{List, [], ◌++◌, append_assoc}
use native.Mathlib.Omega.{arith}
use lib.ListN.{length, length-append}
use Rattle.base_lists.proofs.Ranges.{by-test, by_last, gather_zero, gather_yes, gather_all_length}
use Rattle.base_scope.specs.Text.{text}
use Rattle.base_scope.specs.Codes.{LINES, code_name, section_codes}
use Rattle.base_text.specs.Lines.{lined}
use Rattle.base_text.specs.Decimals.{decimal_text}
use Rattle.base_text.proofs.Lines.{length_lined}
use Rattle.blocks_lines.specs.Lines.{line, next}
use Rattle.blocks_lines.specs.Keys.{KEYS, key_name, value_at, is_key_line}
use Rattle.blocks_lines.proofs.Lines.{line_length, end_low, next_low, next_high, whole_lt}
use Rattle.blocks_lines.proofs.Keys.{key_four, key_line_text, key_line_whole}
use Rattle.draft_lines.specs.Lines.{section_line, nop_lines, space_line, label_line, lines_from, group_lines}

-- ---- nop

pub nop_lines_zero : nop_lines 0 ≡ []
unfolding nop_lines
nop_lines_zero = gather_zero (λ i. true) (λ i. lined (text "nop"))

pub nop_lines_next : (n : ℕ) → nop_lines (n + 1) ≡ nop_lines n ++ lined (text "nop")
unfolding nop_lines
nop_lines_next n = gather_yes (λ i. true) (λ i. lined (text "nop")) n refl

pub length_nop_lines : (n : ℕ) → length (nop_lines n) ≡ 4 * n
unfolding nop_lines lined text
length_nop_lines n = gather_all_length (λ i. lined (text "nop")) 4 (λ i. refl) n

-- ---- space

pub length_space : (n : ℕ) → length (space_line n) ≡ length (decimal_text n) + 8
unfolding space_line text
length_space n =
    length_lined (text ".space " ++ decimal_text n) ∙ omega (arith, length-append (text ".space ") (decimal_text n))

-- ---- sections and labels

pub length_section : (c : ℕ) → length (section_line c) ≡ length (code_name c) + 10
unfolding section_line text
length_section c =
    length_lined (text ".section " ++ code_name c) ∙ omega (arith, length-append (text ".section ") (code_name c))

pub section_short : (c : ℕ) → c ≤ LINES → length (section_line c) ≤ 17
unfolding code_name section_codes text
section_short c h =
    let small : length (code_name c) ≤ 7 =
    by_last c 4 (omega arith) (λ u. by_last c 3 u (λ u. by_last c 2 u (λ u. by_last c 1 u (λ u. by_last c 0 u (λ u. absurd (omega arith))
    (λ e. rw e (omega arith))) (λ e. rw e (omega arith))) (λ e. rw e (omega arith))) (λ e. rw e (omega arith))) (λ e. rw e (omega arith)) in
    omega (arith, length_section c)

pub length_label : (l s : List ℕ) → length (label_line l s) ≡ length l + length s + 8
unfolding label_line text
length_label l s =
    length_lined (text "glabel " ++ (l ++ s)) ∙ omega (arith, length-append (text "glabel ") (l ++ s), length-append l s)

-- a label's line, as it is written: the word, the label, and the suffix as a line
pub label_parts : (l s : List ℕ) → (text "glabel " ++ l) ++ lined s ≡ label_line l s
unfolding label_line lined
label_parts l s = simp append_assoc

-- ---- the lines of a group

module _ (B : List ℕ) (k : ℕ) where
  -- where a line of the key stands, it lies in front of the file's end
  pub key_line_inside : (a : ℕ) → is_key_line B k a ≡ true → a < length B
  key_line_inside a t = omega (arith, end_low B a, whole_lt B a (key_line_whole B k a t))

  -- a line is its key and its value, so its key fits, and its value and an LF are at least four bytes shorter than the line and its LF
  pub key_line_long : (a : ℕ) → is_key_line B k a ≡ true → length (line B a) ≡ length (key_name k) + length (value_at B k a)
  key_line_long a t = ap length (key_line_text B k a t) ∙ length-append (key_name k) (value_at B k a)

  pub value_short : (a : ℕ) → k < KEYS → is_key_line B k a ≡ true → length (lined (value_at B k a)) + a + 4 ≤ next B a
  unfolding next
  value_short a u t =
      omega (arith, length_lined (value_at B k a), key_line_long a t, line_length B a (omega (arith, key_line_inside a t)), end_low B a, key_four k u)

  from_more : (m a : ℕ) → length B ≤ a + m → lines_from B k a (suc m) ≡ lines_from B k a m
  unfolding lines_from
  from_more zero a h = by-test (is_key_line B k a)
      (λ t. absurd (omega (arith, key_line_inside a t)))
      (λ t. rw t)
  from_more (suc m) a h = by-test (is_key_line B k a)
      (λ t. rw (t, from_more m (next B a) (omega (arith, next_low B a))))
      (λ t. rw t)

  -- a bound that is great enough is of no account
  from_extra : (d m a : ℕ) → length B ≤ a + m → lines_from B k a (d + m) ≡ lines_from B k a m
  from_extra zero m a h =
      let e : zero + m ≡ m = omega arith in
      rw e
  from_extra (suc d) m a h =
      let e : suc d + m ≡ suc (d + m) = omega arith in
      rw e (from_more (d + m) a (omega arith) ∙ from_extra d m a h)

  lines_stop : (n a : ℕ) → is_key_line B k a ≡ false → lines_from B k a n ≡ []
  unfolding lines_from
  lines_stop zero a t = refl
  lines_stop (suc n) a t = rw t

  -- the two ways of a turn
  pub group_lines_here : (a : ℕ) → is_key_line B k a ≡ false → group_lines B k a ≡ []
  unfolding group_lines
  group_lines_here a t = lines_stop (length B - a) a t

  pub group_lines_next : (a : ℕ) → is_key_line B k a ≡ true → group_lines B k a ≡ lined (value_at B k a) ++ group_lines B k (next B a)
  unfolding group_lines lines_from
  group_lines_next a t =
      let l : a < length B = key_line_inside a t in
      let g : a < next B a = next_low B a in
      let e : length B - a ≡ suc (length B - (a + 1)) = omega arith in
      let d : length B - (a + 1) ≡ next B a - (a + 1) + (length B - next B a) = omega (arith, next_high B a (key_line_whole B k a t)) in
      rw (e, t, d, from_extra (next B a - (a + 1)) (length B - next B a) (next B a) (omega arith))

  lines_short : k < KEYS → (n a : ℕ) → a ≤ length B → length (lines_from B k a n) ≤ length B - a
  unfolding lines_from
  lines_short u zero a h = omega arith
  lines_short u (suc n) a h = by-test (is_key_line B k a)
      (λ t.
      let i : next B a ≤ length B = next_high B a (key_line_whole B k a t) in
      let e = length-append (lined (value_at B k a)) (lines_from B k (next B a) n) in
      rw t (omega (arith, e, i, value_short a u t, lines_short u n (next B a) i)))
      (λ t. rw t (omega arith))

  pub group_lines_short : (a : ℕ) → k < KEYS → a ≤ length B → length (group_lines B k a) ≤ length B - a
  unfolding group_lines
  group_lines_short a u h = lines_short u (length B - a) a h
