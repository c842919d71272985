-- The laws of a block's dummies: their lines have one length and stand one behind the other, so line k is found by arithmetic, also from the table of blocks; and all
-- dummies of a file take no more than its bytes. Assumes nothing.
use Prim.Native.Nat.{ℕ, zero, suc, ◌+◌, ◌-◌, ◌*◌, ◌/◌, ◌≤◌, ◌<◌}
use mathlib.Core.Path.{◌≡◌, refl, sym, ap, ◌∙◌}
use mathlib.Core.Bool.{Bool, true, cond}
use mathlib.Core.List.{List}
use native.Mathlib.Numerals.{add-one}
use native.Mathlib.Omega.{arith}
use lib.ListN.{length, length-append}
use Rattle.base_lists.specs.Ranges.{sum}
use Rattle.base_lists.proofs.Ranges.{by-test, by-lt}
use Rattle.base_scope.specs.Text.{text}
use Rattle.base_scope.specs.Limits.{DUMMY_LINE, DUMMY_LIMIT, FILE_LIMIT}
use Rattle.blocks_lines.specs.Lines.{line, next}
use Rattle.blocks_lines.specs.Keys.{KEYS, KEY_DUMMY, KEY_JTBL, keys, key_name, is_key_line, value_at}
use Rattle.blocks_lines.proofs.Lines.{line_length, end_low}
use Rattle.blocks_lines.proofs.Keys.{repeats_middle, key_line_text}
use Rattle.blocks_file.specs.Blocks.{skip_from, skip, count_from, group_size, line_behind, group_at, block_at, block_count}
use Rattle.blocks_file.specs.Table.{group_in, Parsed}
use Rattle.blocks_file.proofs.Blocks.{key_inside, group_next, group_end_many, group_mono, group_low, block_next, counted_group}
use Rattle.blocks_file.proofs.Table.{group_in_lem}
use Rattle.blocks_items.specs.Items.{hexadecimal, dummy_count, dummy_line, dummy_word}
use Rattle.blocks_items.specs.Table.{dummies_in}
use Rattle.blocks_items.proofs.Items.{dummy_sound_lem, dummy_long}

-- m lines of dummies stand from a on, and e is behind them
record Stacked (B : List ℕ) (a e m : ℕ) : Type 0 where
  ends : e ≡ a + DUMMY_LINE * m
  each : (k : ℕ) → k < m → is_key_line B KEY_DUMMY (a + DUMMY_LINE * k) ≡ true

module _ (B : List ℕ) where
  key_long : length (key_name KEY_DUMMY) ≡ 6
  unfolding key_name keys text
  key_long = refl

  -- a line of a dummy has 15 bytes, its LF included
  pub dummy_next : (a : ℕ) → is_key_line B KEY_DUMMY a ≡ true → next B a ≡ a + DUMMY_LINE
  unfolding next
  dummy_next a t =
      let i : a < length B = key_inside B KEY_DUMMY a t in
      let v : length (value_at B KEY_DUMMY a) ≡ 8 = dummy_long (value_at B KEY_DUMMY a) (dummy_sound_lem B a (value_at B KEY_DUMMY a) refl t) in
      let n : length (line B a) ≡ 14 = ap length (key_line_text B KEY_DUMMY a t) ∙ length-append (key_name KEY_DUMMY) (value_at B KEY_DUMMY a) ∙ rw (key_long, v) in
      omega (arith, line_length B a (omega arith), end_low B a)

  more : (a m e : ℕ) → is_key_line B KEY_DUMMY a ≡ true → Stacked B (next B a) e m → Stacked B a e (m + 1)
  more a m e t s =
      let n : next B a ≡ a + DUMMY_LINE = dummy_next a t in
      record {
        ends = omega (arith, s.ends);
        each = λ k h. by-lt 0 k
            (λ l.
            let q : a + DUMMY_LINE * k ≡ next B a + DUMMY_LINE * (k - 1) = omega arith in
            rw q (s.each (k - 1) (omega arith)))
            (λ l. let q : a + DUMMY_LINE * k ≡ a = omega arith in rw q t);
      }

  -- the lines that are passed over are those that are counted
  lines : (n a : ℕ) → Stacked B a (skip_from B KEY_DUMMY a n) (count_from B KEY_DUMMY a n)
  unfolding skip_from count_from
  lines zero a = record { ends = omega arith; each = λ k h. absurd (omega arith) }
  lines (suc n) a = by-test (is_key_line B KEY_DUMMY a)
      (λ t. rw t (more a (count_from B KEY_DUMMY (next B a) n) (skip_from B KEY_DUMMY (next B a) n) t (lines n (next B a))))
      (λ f. rw f (record { ends = omega arith; each = λ k h. absurd (omega arith) }))

  group_dummies : (a : ℕ) → group_at B a KEY_JTBL ≡ skip B KEY_DUMMY (group_at B a KEY_DUMMY)
  group_dummies a = group_next B a KEY_DUMMY ∙ group_end_many B KEY_DUMMY (group_at B a KEY_DUMMY) (repeats_middle KEY_DUMMY (omega arith) (omega arith))

  stacked : (i : ℕ) → Stacked B (group_at B (block_at B i) KEY_DUMMY) (group_at B (block_at B i) KEY_JTBL) (dummy_count B i)
  unfolding skip dummy_count group_size
  stacked i =
      let a = group_at B (block_at B i) KEY_DUMMY in
      rw (group_dummies (block_at B i)) (lines (length B - a) a)

  -- the dummies of block i, each a line of its key
  pub dummies_end : (i : ℕ) → group_at B (block_at B i) KEY_JTBL ≡ group_at B (block_at B i) KEY_DUMMY + DUMMY_LINE * dummy_count B i
  dummies_end i = (stacked i).ends

  behind : (i m k : ℕ) → m ≡ dummy_count B i → k ≤ m → line_behind B (group_at B (block_at B i) KEY_DUMMY) k ≡ group_at B (block_at B i) KEY_DUMMY + DUMMY_LINE * k
  unfolding line_behind
  behind i m zero e h = omega arith
  behind i m (suc k) e h =
      let b = behind i m k e (omega arith) in
      let t : is_key_line B KEY_DUMMY (group_at B (block_at B i) KEY_DUMMY + DUMMY_LINE * k) ≡ true = (stacked i).each k (omega arith) in
      rw b (omega (arith, dummy_next (group_at B (block_at B i) KEY_DUMMY + DUMMY_LINE * k) t))

  pub dummy_line_lem : (i k : ℕ) → k ≤ dummy_count B i → dummy_line B i k ≡ group_at B (block_at B i) KEY_DUMMY + DUMMY_LINE * k
  unfolding dummy_line
  dummy_line_lem i k h = behind i (dummy_count B i) k refl h

  pub dummy_line_key : (i k : ℕ) → k < dummy_count B i → is_key_line B KEY_DUMMY (dummy_line B i k) ≡ true
  dummy_line_key i k h = rw (dummy_line_lem i k (omega arith)) ((stacked i).each k h)

  -- ---- what is read

  pub count_few : (i : ℕ) → i < block_count B → DUMMY_LINE * dummy_count B i ≤ length B
  count_few i h = omega (arith, dummies_end i, counted_group B i KEY_JTBL h (omega arith))

  module _ (table : List ℕ) (p : Parsed B table) (i : ℕ) (h : i < block_count B) where
    pub dummies_in_lem : dummies_in table i ≡ dummy_count B i
    unfolding dummies_in
    dummies_in_lem =
        rw (group_in_lem B table p i KEY_JTBL h (omega arith), group_in_lem B table p i KEY_DUMMY h (omega arith), dummies_end i) (omega arith)

    -- the group ends behind its start, and has few lines
    pub dummies_up : group_in table i KEY_DUMMY ≤ group_in table i KEY_JTBL
    dummies_up =
        omega (arith, group_in_lem B table p i KEY_JTBL h (omega arith), group_in_lem B table p i KEY_DUMMY h (omega arith), dummies_end i)

    pub dummies_limit : dummy_count B i ≤ DUMMY_LIMIT
    dummies_limit = omega (arith, count_few i h, p.small)

    module _ (k a : ℕ) (l : k < dummy_count B i) (e : a ≡ group_in table i KEY_DUMMY) where
      start : a ≡ group_at B (block_at B i) KEY_DUMMY
      start = e ∙ group_in_lem B table p i KEY_DUMMY h (omega arith)

      at : a + DUMMY_LINE * k ≡ dummy_line B i k
      at = ap (λ (n : ℕ). n + DUMMY_LINE * k) start ∙ sym (dummy_line_lem i k (omega arith))

      pub word_line : is_key_line B KEY_DUMMY (a + DUMMY_LINE * k) ≡ true
      word_line = rw at (dummy_line_key i k l)

      pub word_read : (v : List ℕ) (r : ℕ) → v ≡ value_at B KEY_DUMMY (a + DUMMY_LINE * k) → r ≡ hexadecimal v → r ≡ dummy_word B i k
      unfolding dummy_word
      word_read v r f q = q ∙ ap hexadecimal (f ∙ ap (value_at B KEY_DUMMY) at)

      pub word_inside : a + DUMMY_LINE * k ≤ length B
      word_inside = omega (arith, start, dummies_end i, counted_group B i KEY_JTBL h (omega arith))

  -- ---- all dummies

  block_dummies : (i : ℕ) → block_at B i + DUMMY_LINE * dummy_count B i ≤ block_at B (i + 1)
  block_dummies i =
      rw (block_next B i) (omega (arith, dummies_end i, group_low B (block_at B i) KEY_DUMMY, group_mono B (block_at B i) KEY_JTBL KEYS (omega arith)))

  -- those of some of the first n blocks
  pub dummies_few : (p : ℕ → Bool) (n : ℕ) → DUMMY_LINE * sum (λ i. cond (p i) (dummy_count B i) 0) n ≤ block_at B n
  unfolding sum
  dummies_few p zero = omega arith
  dummies_few p (suc n) = rw (← add-one n) (by-test (p n)
      (λ t. rw t (omega (arith, dummies_few p n, block_dummies n)))
      (λ f. rw f (omega (arith, dummies_few p n, block_dummies n))))
