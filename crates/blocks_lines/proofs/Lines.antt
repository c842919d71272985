-- The laws of lines: that a line ends at the first LF, where that lies, and how the line number grows. A line's end is a first
-- index, so each comes from the laws of first indices and of counts. Assumes nothing.
use Prim.Native.Nat.{ℕ, ◌+◌, ◌-◌, ◌≤◌, ◌<◌}
use mathlib.Core.Path.{◌≡◌, refl, sym, ap, ◌∙◌}
use mathlib.Core.Bool.{true, false}
use mathlib.Core.List.{List, []}
use native.Mathlib.Omega.{arith}
use lib.ListN.{length, drop, get_or, drop_of_length-le, length-drop}
use lib.Seq.{take-nil, length-take-le}
use borrow.Author.Tests.{eq-eqb, ne_eqb, ltb-true, lt-ltb, le-ltb}
use Rattle.base_lists.specs.Ranges.{count, IsFirst}
use Rattle.base_lists.proofs.Ranges.{first_end, first_is, first_low_lem, first_high, count_yes, count_skip}
use Rattle.base_names.specs.Words.{byte_at, first_byte}
use Rattle.blocks_lines.specs.Lines.{feed_at, line_end, is_whole, line, next, line_number}

module _ (B : List ℕ) where
  pub feed_true : (i : ℕ) → get_or B i 0 ≡ 10 → feed_at B i ≡ true
  unfolding feed_at
  feed_true i e = eq-eqb _ _ e

  pub feed_false : (i : ℕ) → (get_or B i 0 ≡ 10 → ⊥) → feed_at B i ≡ false
  unfolding feed_at
  feed_false i d = ne_eqb _ _ d

  pub first_feed : (a : ℕ) → first_byte B 10 a ≡ line_end B a
  unfolding first_byte byte_at line_end feed_at
  first_feed a = refl

  pub end_past : (i : ℕ) → length B ≤ i → line_end B i ≡ i
  unfolding line_end
  end_past i h = first_end (feed_at B) i (length B) h

  pub end_low : (a : ℕ) → a ≤ line_end B a
  unfolding line_end
  end_low a = first_low_lem (feed_at B) a (length B)

  pub end_high : (a : ℕ) → a ≤ length B → line_end B a ≤ length B
  unfolding line_end
  end_high a h = first_high (feed_at B) a (length B) h

  -- a line whose end lies in the file has its LF
  pub whole_lt : (a : ℕ) → is_whole B a ≡ true → line_end B a < length B
  unfolding is_whole
  whole_lt a t = ltb-true _ _ t

  pub lt_whole : (a : ℕ) → line_end B a < length B → is_whole B a ≡ true
  unfolding is_whole
  lt_whole a h = lt-ltb _ _ h

  pub le_whole : (a : ℕ) → length B ≤ line_end B a → is_whole B a ≡ false
  unfolding is_whole
  le_whole a h = le-ltb _ _ h

  -- the next line starts behind this one, and inside the file or at its end
  pub next_low : (a : ℕ) → a < next B a
  unfolding next
  next_low a = omega (arith, end_low a)

  pub next_high : (a : ℕ) → is_whole B a ≡ true → next B a ≤ length B
  unfolding next
  next_high a t = omega (arith, whole_lt a t)

  -- past the end there is an empty line
  pub line_past : (a : ℕ) → length B ≤ a → line B a ≡ []
  unfolding line
  line_past a h = rw (drop_of_length-le B h, take-nil)

  pub line_length : (a : ℕ) → a ≤ length B → length (line B a) ≡ line_end B a - a
  unfolding line
  line_length a h = length-take-le (line_end B a - a) (drop a B) (rw length-drop (omega (arith, end_high a h)))

  -- no byte of a line is an LF, and the byte behind a whole line is one
  pub end_is : (a : ℕ) → is_whole B a ≡ true → IsFirst (feed_at B) a (length B) (line_end B a)
  unfolding line_end
  end_is a t = first_is (feed_at B) a (length B) (omega (arith, end_low a, whole_lt a t))

  -- the line behind a whole line has the next number
  pub line_number_next : (a : ℕ) → is_whole B a ≡ true → line_number B (next B a) ≡ line_number B a + 1
  unfolding line_number next
  line_number_next a t =
      let r = end_is a t in
      let l : a ≤ line_end B a = r.low in
      let e : a + (line_end B a - a) ≡ line_end B a = omega arith in
      let s : count (feed_at B) (line_end B a) ≡ count (feed_at B) a =
      ap (count (feed_at B)) (sym e) ∙ count_skip (feed_at B) a (line_end B a - a) (λ j g u. r.below j g (omega arith)) in
      rw (count_yes (feed_at B) (line_end B a) (r.here (whole_lt a t)), s)
