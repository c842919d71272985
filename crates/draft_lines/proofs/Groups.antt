-- The turns of the loop that appends a group: the values written so far, and the group from the line reached, are the group from the start. Each
-- turn moves one value and its LF from the second to the first, and these are shorter than the line. Assumes nothing.
use Prim.Native.Nat.{ℕ, ◌+◌, ◌-◌, ◌≤◌, ◌<◌}
use mathlib.Core.Path.{◌≡◌, sym, ap, ◌∙◌}
use mathlib.Core.Bool.{true, false}
use mathlib.Core.List.{List, ◌++◌, append_assoc, append-nil}
use native.Mathlib.Omega.{arith}
use lib.ListN.{length, take, drop, get_or, length-drop}
use lib.Seq.{drop-drop, get_or-drop}
use borrow.Author.Tests.{eqb-true}
use Rattle.base_lists.specs.Written.{Written}
use Rattle.base_lists.proofs.Ranges.{by-test}
use Rattle.base_lists.proofs.Windows.{take_next, drop_take}
use Rattle.base_lists.proofs.Written.{written_then, written_as}
use Rattle.base_text.specs.Lines.{lined}
use Rattle.blocks_lines.specs.Lines.{feed_at, line_end, line, next}
use Rattle.blocks_lines.specs.Keys.{KEYS, key_name, value_at, is_key_line}
use Rattle.blocks_lines.proofs.Lines.{end_low, end_is, whole_lt, line_length, next_low, next_high}
use Rattle.blocks_lines.proofs.Keys.{key_line_whole}
use Rattle.blocks_file.specs.Blocks.{skip}
use Rattle.blocks_file.proofs.Blocks.{skip_here, skip_next, skip_low}
use Rattle.draft_lines.specs.Lines.{group_lines}
use Rattle.draft_lines.proofs.Lines.{key_line_inside, key_line_long, value_short, group_lines_here, group_lines_next}

-- the line at a is one of key k, n is the key's length, and j is where the next line starts: what lies between is the value and its LF
module _ (B : List ℕ) (k a n j : ℕ) (t : is_key_line B k a ≡ true) (key : n ≡ length (key_name k)) (is : j ≡ line_end B a + 1) where
  pub key_fits : a + n < j
  key_fits = omega (arith, key_line_long B k a t, line_length B a (omega (arith, key_line_inside B k a t)), end_low B a)

  pub turn_inside : (a < j) × (j ≤ length B)
  turn_inside = (omega (arith, end_low B a), omega (arith, whole_lt B a (key_line_whole B k a t)))

  feed : get_or B (line_end B a) 0 ≡ 10
  unfolding feed_at
  feed =
      let w = key_line_whole B k a t in
      eqb-true _ _ ((end_is B a w).here (whole_lt B a w))

  pub value_lined : take (j - (a + n)) (drop (a + n) B) ≡ lined (value_at B k a)
  unfolding lined value_at line
  value_lined =
      let m = line_end B a - (a + n) in
      let f = key_fits in
      let e : j - (a + n) ≡ m + 1 = omega arith in
      let d : line_end B a - a ≡ n + m = omega arith in
      let p : a + n + m ≡ line_end B a = omega arith in
      let h : m < length (drop (a + n) B) = rw length-drop (omega (arith, turn_inside.1)) in
      let v : drop (length (key_name k)) (take (line_end B a - a) (drop a B)) ≡ take m (drop (a + n) B) =
      rw (← key, d) (drop_take n m (drop a B) ∙ ap (take m) (drop-drop n a B)) in
      rw (e, v) (take_next (drop (a + n) B) m 0 h ∙ rw (get_or-drop (a + n) B m 0, p, feed))

module _ (B : List ℕ) (k to i : ℕ) (is : to ≡ skip B k i) where
  -- in front of the group's end a line of the key stands
  pub turn_key : i < to → is_key_line B k i ≡ true
  turn_key h = by-test (is_key_line B k i) (λ t. t) (λ f. absurd (omega (arith, skip_here B k i f)))

  pub turn_end : to ≤ i → is_key_line B k i ≡ false
  turn_end h = by-test (is_key_line B k i) (λ t. absurd (omega (arith, skip_next B k i t, next_low B i, skip_low B k (next B i)))) (λ f. f)

module _ (B : List ℕ) (k : ℕ) (o : List ℕ) (at from : ℕ) (p : List ℕ) (end i : ℕ) (s : List ℕ) where
  pub group_turn : (to r : ℕ) (q : List ℕ) (j : ℕ) → k < KEYS → is_key_line B k i ≡ true → j ≡ line_end B i + 1 → to ≡ skip B k i → end + from ≤ at + i
      → Written o at s end p → group_lines B k from ≡ s ++ group_lines B k i → Written p end (lined (value_at B k i)) r q
      → (j ≤ length B) × (to ≡ skip B k j) × (r + from ≤ at + j) × (u : List ℕ) × Written o at u r q × (group_lines B k from ≡ u ++ group_lines B k j)
  unfolding next
  group_turn to r q j below t e m h w g v =
      let n : j ≡ next B i = e in (
        omega (arith, n, next_high B i (key_line_whole B k i t)),
        m ∙ skip_next B k i t ∙ ap (skip B k) (sym n),
        omega (arith, n, v.end, value_short B k i below t),
        s ++ lined (value_at B k i),
        written_then o at s end p (lined (value_at B k i)) r q w v,
        g ∙ rw (group_lines_next B k i t, n, append_assoc),
      )

  pub group_done : is_key_line B k i ≡ false → Written o at s end p → group_lines B k from ≡ s ++ group_lines B k i → Written o at (group_lines B k from) end p
  group_done t w g = written_as o at s (group_lines B k from) end p (sym (g ∙ rw (group_lines_here B k i t) (append-nil s))) w
