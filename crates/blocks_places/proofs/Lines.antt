-- What a line of a block file holds: its key, and where it has a label a size and an align8. Assumes nothing.
use Prim.Native.Nat.{ℕ, ◌+◌, ◌-◌, ◌*◌, ◌≤◌, ◌<◌}
use mathlib.Core.Path.{◌≡◌, refl, sym, ap, ◌∙◌}
use mathlib.Core.Bool.{true}
use mathlib.Core.List.{List}
use native.Mathlib.Omega.{arith}
use lib.ListN.{length, take, drop}
use lib.Dec.{ltb}
use borrow.Author.Tests.{ltb-true}
use Rattle.base_scope.specs.Codes.{LINES, line_code, line_block}
use Rattle.base_scope.specs.Limits.{NUMBER_LIMIT}
use Rattle.base_text.specs.Decimals.{decimal}
use Rattle.blocks_values.specs.declared.LineParts.{LineParts}
use Rattle.blocks_values.specs.Values.{every, is_digit, label_in, size_in, align_in, span_sound, line_sound}
use Rattle.blocks_values.specs.Parts.{line_parts}
use Rattle.blocks_values.proofs.Values.{Parts, label_up_to, section_span, sound_span}
use Rattle.base_lists.proofs.Windows.{part_of_part}
use Rattle.blocks_lines.specs.Lines.{line_end, line, next}
use Rattle.blocks_lines.specs.Keys.{key_name, is_key_line, value_at}
use Rattle.blocks_lines.proofs.Lines.{end_low, whole_lt, line_length}
use Rattle.blocks_lines.proofs.Keys.{repeats_low, key_line_whole, value_fits, value_part}
use Rattle.blocks_file.specs.Blocks.{group_at, block_at, block_count}
use Rattle.blocks_file.specs.Table.{Parsed, group_in}
use Rattle.blocks_file.proofs.Blocks.{key_inside, group_next, group_end_one, counted_key, counted_section}
use Rattle.blocks_file.proofs.Table.{group_in_lem}
use Rattle.blocks_places.specs.Lines.{line_count, span_value, labelled, span_label, span_size, span_align8}

module _ (B : List ℕ) where
  -- the line of a span is one of its key
  pub span_key : (j a : ℕ) → a ≡ group_at B (block_at B (line_block j)) (line_code j) → j < line_count B → is_key_line B (line_code j) a ≡ true
  span_key j a start h =
      let k : line_code j < LINES + 1 = omega arith in
      rw start (counted_key B (line_block j) (line_code j) (omega arith) (omega arith) (repeats_low (line_code j) k))

  pub value_read : (j a : ℕ) → a ≡ group_at B (block_at B (line_block j)) (line_code j) → value_at B (line_code j) a ≡ span_value B j
  unfolding span_value
  value_read j a start = rw start

  -- where it starts, from the table of blocks: i and k are its block and its code
  module _ (table : List ℕ) (p : Parsed B table) (j i k a : ℕ) (h : j < line_count B) (block : i ≡ line_block j) (code : k ≡ line_code j) (read : a ≡ group_in table i k) where
    pub line_start : a ≡ group_at B (block_at B (line_block j)) (line_code j)
    line_start = read ∙ rw (block, code) (group_in_lem B table p (line_block j) (line_code j) (omega arith) (omega arith))

    pub line_key : is_key_line B k a ≡ true
    line_key = rw code (span_key j a line_start h)

    pub line_value : (v : List ℕ) → v ≡ value_at B k a → v ≡ span_value B j
    line_value v e = e ∙ rw code (value_read j a line_start)

    -- and where it ends: the next group starts behind its LF
    module _ (e n : ℕ) (behind : e ≡ group_in table i (k + 1)) (key : n ≡ length (key_name k)) where
      line_next : e ≡ next B a
      line_next =
          behind
          ∙ rw (block, code) (group_in_lem B table p (line_block j) (line_code j + 1) (omega arith) (omega arith))
          ∙ group_next B (block_at B (line_block j)) (line_code j)
          ∙ group_end_one B (line_code j) _ (repeats_low (line_code j) (omega arith))
          ∙ rw (← line_start)

      line_last : e - 1 ≡ line_end B a
      unfolding next
      line_last =
          let x = line_next in
          omega (arith, x)

      line_long : length (line B a) ≡ line_end B a - a
      line_long = line_length B a (omega (arith, key_inside B k a line_key))

      line_key_fits : n ≤ length (line B a)
      line_key_fits = value_fits B k a (line B a) n refl key line_key

      pub line_inside : (a + n ≤ e - 1) × (e - 1 ≤ length B) × (1 ≤ e)
      unfolding next
      line_inside =
          let l = line_last in
          let x = line_next in
          let s = line_key_fits in
          let y = line_long in
          let m = end_low B a in
          let q = whole_lt B a (key_line_whole B k a line_key) in
          (omega (arith, l, s, y, m), omega (arith, l, q), omega (arith, x))

      pub line_part : take (e - 1 - (a + n)) (drop (a + n) B) ≡ span_value B j
      unfolding line
      line_part =
          let l = line_last in
          let y = line_long in
          let s = line_key_fits in
          let w : e - 1 - (a + n) ≡ length (line B a) - n = omega (arith, l, y, s) in
          line_value _ (ap (λ (m : ℕ). take m (drop (a + n) B)) w
          ∙ sym (part_of_part B a (line_end B a - a) n (length (line B a) - n) (omega (arith, y, s)))
          ∙ value_part B k a (line B a) n refl key)

  pub span_section : (j : ℕ) → j < line_count B → line_sound (span_value B j) ≡ true
  unfolding span_value
  span_section j h =
      counted_section B (line_block j) (line_code j) (omega arith) (omega arith) (omega arith)

  pub labelled_long : (j : ℕ) → labelled B j ≡ true → 0 < length (span_value B j)
  unfolding labelled
  labelled_long j t = ltb-true _ _ t

  pub labelled_read : (j : ℕ) (v : List ℕ) → v ≡ span_value B j → ltb 0 (length v) ≡ labelled B j
  unfolding labelled
  labelled_read j v e = rw e

  -- a line with a label has a size and an align8
  span_sound_lem : (j : ℕ) → j < line_count B → labelled B j ≡ true → span_sound (span_value B j) ≡ true
  span_sound_lem j h t =
      let v = span_value B j in
      let l : 0 < length v = labelled_long j t in
      sym (section_span v (λ e. absurd (omega arith))) ∙ span_section j h

  pub span_parts : (j : ℕ) → j < line_count B → labelled B j ≡ true → Parts (span_value B j)
  span_parts j h t = sound_span (span_value B j) (span_sound_lem j h t)

  -- its digits in hand
  module _ (j : ℕ) (h : j < line_count B) (t : labelled B j ≡ true) (v d : List ℕ) (is : v ≡ span_value B j) where
    pub size_digits : d ≡ size_in v → (length d ≤ 7) × (every is_digit d ≡ true)
    size_digits e = let p = span_parts j h t in rw (e, is) (p.size_length, p.size_digits)

    pub size_read : (n : ℕ) → d ≡ size_in v → n ≡ decimal d → (n ≡ span_size B j) × (n ≤ NUMBER_LIMIT)
    unfolding span_size
    size_read n e q =
        let x : n ≡ decimal (size_in (span_value B j)) = rw (← is, ← e) q in
        (x, rw x (span_parts j h t).size_limit)

  pub label_read : (j : ℕ) (v l : List ℕ) → v ≡ span_value B j → l ≡ label_in v → l ≡ span_label B j
  unfolding span_label
  label_read j v l e f = f ∙ ap label_in e

  -- its value in hand, and the parts that were read of it
  module _ (j : ℕ) (v : List ℕ) (is : v ≡ span_value B j) where
    pub value_sound_lem : j < line_count B → labelled B j ≡ true → span_sound v ≡ true
    value_sound_lem h t = rw is (span_sound_lem j h t)

    module _ (p : LineParts) (read : p ≡ line_parts v) where
      pub parts_label : take (p.label - 0) v ≡ span_label B j
      unfolding line_parts
      parts_label = label_read j v _ is (label_up_to v p.label (ap (λ (x : LineParts). x.label) read))

      pub parts_size : p.size ≡ span_size B j
      unfolding line_parts span_size
      parts_size = ap (λ (x : LineParts). x.size) read ∙ ap (λ (l : List ℕ). decimal (size_in l)) is

      pub parts_align8 : p.align8 ≡ span_align8 B j
      unfolding line_parts span_align8
      parts_align8 = ap (λ (x : LineParts). x.align8) read ∙ ap (λ (l : List ℕ). decimal (align_in l)) is
