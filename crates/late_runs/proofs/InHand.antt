-- What the table says of a run is what the definitions say: the words of a block are its dummies' places, the first that ends past x is the run's item or else its
-- jump table is, and a dummy moved on where it stands right before its place. Assumes nothing.
use Prim.Native.Nat.{ℕ, ◌+◌, ◌-◌, ◌≤◌, ◌<◌}
use mathlib.Core.Path.{◌≡◌, refl, sym, ap, ◌∙◌}
use mathlib.Core.Logic.{inr}
use mathlib.Core.Bool.{Bool, true, false, ◌&&◌}
use mathlib.Core.List.{List}
use native.Mathlib.Omega.{arith}
use lib.Dec.{eqb, leb, ltb}
use borrow.Author.Tests.{le-leb, lt-ltb, le-ltb, ne_eqb}
use Rattle.base_lists.specs.Ranges.{first}
use Rattle.base_lists.proofs.Ranges.{by-lt, both, first_more, first_high, none_first, first_ext, sum_mono}
use Rattle.base_fields.specs.declared.ByteOrder.{ByteOrder}
use Rattle.base_scope.specs.Limits.{FILE_LIMIT}
use Rattle.blocks_file.specs.Blocks.{block_count}
use Rattle.late_lookups.specs.of_blocks_places.Places.{Place, live}
use Rattle.late_lookups.specs.of_blocks_items.Items.{dummy_count, dummy_word, jump_table, late_bytes, late_length}
use Rattle.late_dummies.specs.Dummies.{word_at, shifts, placed, is_lost}
use Rattle.late_dummies.proofs.Dummies.{shift_told}
use Rattle.late_lookups.specs.of_late_moves.Moves.{first_of_many, items, item_length, late_source, move_source, late_from, last_place, move_place, is_move_fault, is_shifted}
use Rattle.late_lookups.proofs.of_late_moves.Moves.{dummy_yes, length_dummy, length_table, place_dummy, place_table_lem, fault_dummy, items_live, item_live, block_source_next, late_next, last_zero, last_next, places_ascend, sound_item, late_inside_lem, place_inside}
use Rattle.late_lookups.specs.of_late_walk.Steps.{live_dummies}
use Rattle.late_lookups.proofs.of_late_walk.Table.{index_next}
use Rattle.late_lookups.specs.Fields.{late_field, row_dummies, is_past, row_past, LateRows}
use Rattle.late_lookups.proofs.Lookups.{field_source, field_index, field_last, word_place, late_rows}
use Rattle.late_runs.specs.Runs.{run_block, run_item, gap_run, item_run, run_at}
use Rattle.late_runs.specs.Words.{dummy_place, word_past, dummy_over, Rising, moved_on, gap_to, word_run, table_run, row_run, run_read, AtWord, AtRun}
use Rattle.late_runs.proofs.Runs.{block_here, block_from, some_item, item_in, item_past, item_before}
use Rattle.late_runs.proofs.Words.{over_high, over_past, row_word, row_table_lem, read_none, read_row}

module _ (o : ByteOrder) (P : List Place) (B R table late : List ℕ) (s x : ℕ) (y : AtRun o P B R table late s x) where
  pub hand_rows : LateRows late (block_count B)
  hand_rows = late_rows o P B R s late y.moves

  -- the row that is found is the run's block
  pub hand_block : row_past late 2 (block_count B) x ≡ run_block o P B R x
  unfolding row_past is_past run_block
  hand_block =
      first_ext (is_past late 2 x) (λ i. ltb x (late_from o P B R (i + 1))) 0 (block_count B)
      (λ i l u. ap (λ (n : ℕ). ltb x n) (field_last o P B R s late y.moves (i + 1) (omega arith)))

  module _ (i : ℕ) (e : run_block o P B R x ≡ i) (h : i < block_count B) where
    source_small : late_source P B s i ≤ FILE_LIMIT
    unfolding late_source late_length
    source_small = omega (arith, y.span, sum_mono (late_bytes P B) i (block_count B) (omega arith))

    on : live P B i ≡ true
    on = item_live P B i 0 (some_item o P B R x i e h y.past)

    many : items P B i ≡ dummy_count B i + 1
    many = items_live P B i on

    counts : live_dummies P B i ≡ dummy_count B i
    unfolding live_dummies
    counts = rw on

    pub hand_dummies : row_dummies late i ≡ dummy_count B i
    unfolding row_dummies
    hand_dummies =
        rw (field_index o P B R s late y.moves (i + 1) (omega arith), field_index o P B R s late y.moves i (omega arith), index_next P B i, counts) (omega arith)

    place_is : (k : ℕ) → k < dummy_count B i → dummy_place late i k ≡ move_place o P B R i k
    unfolding dummy_place
    place_is k l =
        rw (field_index o P B R s late y.moves i (omega arith)) (word_place o P B R s late y.moves i k h (rw counts l))

    pub hand_rising : Rising late i
    hand_rising = record {
      row = hand_rows.rows i h;
      rises = λ k l u v. rise k l u (rw hand_dummies at v);
    }
      where
        rise : (k l : ℕ) → k ≤ l → l < dummy_count B i → dummy_place late i k ≤ dummy_place late i l
        rise k l u v = by-lt k l
            (λ w. rw (place_is k (omega arith), place_is l v) (omega (arith, places_ascend o P B R i k i l (omega (arith, many)) (inr (refl, w)))))
            (λ w. let q : k ≡ l = omega arith in rw q (omega arith))

    -- the first dummy whose word ends past x is the run's item, or all are passed and the jump table is
    ends : ℕ → Bool
    ends k = ltb x (move_place o P B R i k + item_length B i k)

    over_ends : dummy_over late i x ≡ first ends 0 (dummy_count B i)
    unfolding dummy_over word_past ends
    over_ends =
        rw hand_dummies (first_ext (word_past late i x) ends 0 (dummy_count B i) (λ k l u. rw (place_is k u, length_dummy B i k u)))

    ends_yes : (k : ℕ) → x < move_place o P B R i k + item_length B i k → ends k ≡ true
    unfolding ends
    ends_yes k u = lt-ltb _ _ u

    item_ends : run_item o P B R x i ≡ first ends 0 (dummy_count B i + 1)
    unfolding run_item ends
    item_ends = rw many

    pub hand_item : run_item o P B R x i ≡ dummy_over late i x
    hand_item = by-lt (first ends 0 (dummy_count B i)) (dummy_count B i)
        (λ l. item_ends ∙ first_more ends 0 (dummy_count B i) (dummy_count B i + 1) l (omega arith) ∙ sym over_ends)
        (λ l.
        let q : first ends 0 (dummy_count B i) ≡ dummy_count B i = omega (arith, first_high ends 0 (dummy_count B i) (omega arith)) in
        by-lt (run_item o P B R x i) (dummy_count B i)
        (λ u. both (passes u) (none_first ends 0 (dummy_count B i) (run_item o P B R x i) q (omega arith) u))
        (λ u. omega (arith, over_ends, many, item_in o P B R x i e h y.past)))
      where
        passes : run_item o P B R x i < dummy_count B i → ends (run_item o P B R x i) ≡ true
        passes u = ends_yes (run_item o P B R x i) (item_past o P B R x i e h y.past)

    -- ---- a dummy

    module _ (k : ℕ) (over : k ≡ dummy_over late i x) (l : k < dummy_count B i) where
      sound_dummy : is_lost o R (first_of_many B i k) (last_place o P B R i k) (dummy_word B i k) ≡ false
      unfolding is_move_fault
      sound_dummy =
          sym (fault_dummy o B R i (last_place o P B R i k) k l)
          ∙ sound_item o P B R (block_count B) i k y.moves.clear h h (omega (arith, many))

      pub hand_word : (count : ℕ) → count ≡ row_dummies late i → AtWord B R table late i count k x
      hand_word count q = record {
        rising = hand_rising;
        parsed = y.parsed;
        counted = h;
        dummies = q ∙ hand_dummies;
        rows = q;
        inside = omega (arith, q, hand_dummies);
        fits = rw (place_is k l) (omega (arith, length_dummy B i k l, place_inside o P B R y.starts i k y.moves.clear h (omega (arith, many))));
        behind = rw (field_last o P B R s late y.moves i (omega arith)) (late_inside_lem o P B R y.starts (block_count B) i y.moves.clear (omega arith) (omega arith));
        small = y.small;
        offset = rw (field_source o P B R s late y.moves i (omega arith)) source_small;
        past = rw over (over_past late i x (omega (arith, over, hand_dummies)));
      }

      -- it moved on where the table and .rodata say so
      shifted_is : is_shifted o P B R i k ≡ shifts o R (first_of_many B i k) (last_place o P B R i k) (dummy_word B i k)
      unfolding is_shifted
      shifted_is = rw (dummy_yes B i k l)

      place_placed : placed o R (first_of_many B i k) (last_place o P B R i k) (dummy_word B i k) ≡ move_place o P B R i k
      unfolding move_place
      place_placed = sym (place_dummy o B R i (last_place o P B R i k) k l)

      shifted_told : is_shifted o P B R i k
          ≡ (first_of_many B i k && (leb (last_place o P B R i k + 4) (move_place o P B R i k) && word_at o R (dummy_word B i k) (move_place o P B R i k - 4)))
      shifted_told =
          shifted_is
          ∙ rw (← place_placed) (shift_told o R (first_of_many B i k) (last_place o P B R i k) (dummy_word B i k) sound_dummy)

      hand_shifted : (count : ℕ) → count ≡ dummy_count B i → moved_on o B R i count k (late_field late 2 i) (move_place o P B R i k) ≡ is_shifted o P B R i k
      unfolding moved_on first_of_many
      hand_shifted count q = by-lt 0 k
          (λ u.
          let z : eqb k 0 ≡ false = ne_eqb k 0 (λ v. omega arith) in
          rw z (sym (shifted_told ∙ rw z)))
          (λ u.
          let z : k ≡ 0 = omega arith in
          let w : last_place o P B R i k ≡ late_field late 2 i = rw z (last_zero o P B R i ∙ sym (field_last o P B R s late y.moves i (omega arith))) in
          rw (q, ← w) (sym (shifted_told ∙ rw z)))

      gap_same : (count : ℕ) → count ≡ dummy_count B i
          → gap_to (moved_on o B R i count k (late_field late 2 i) (move_place o P B R i k)) x (move_place o P B R i k) ≡ gap_run o P B R x i k
      unfolding gap_to gap_run
      gap_same count q = rw (hand_shifted count q)

      pub hand_run : (count : ℕ) → count ≡ row_dummies late i → word_run o B R late i count k x ≡ item_run o P B R s x i (run_item o P B R x i)
      unfolding word_run item_run move_source
      hand_run count q =
          let z : run_item o P B R x i ≡ k = hand_item ∙ sym over in
          rw (z, place_is k l, length_dummy B i k l, field_source o P B R s late y.moves i (omega arith), gap_same count (q ∙ hand_dummies))

    -- ---- the jump table

    module _ (k : ℕ) (over : k ≡ dummy_over late i x) (l : dummy_count B i ≤ k) where
      last_item : k ≡ dummy_count B i
      last_item = omega (arith, over, over_high late i x, hand_dummies)

      -- it starts at or before x, for all dummies are passed
      starts : move_place o P B R i (dummy_count B i) ≤ x
      unfolding move_place
      starts =
          rw (place_table_lem o B R i (last_place o P B R i (dummy_count B i)) (dummy_count B i) (omega arith))
          (by-lt 0 (dummy_count B i)
          (λ u.
          let q : dummy_count B i - 1 + 1 ≡ dummy_count B i = omega arith in
          rw (← q) (rw (last_next o P B R i (dummy_count B i - 1)) (item_before o P B R x i e h y.past (dummy_count B i - 1) (omega (arith, hand_item, over, last_item)))))
          (λ u. let q : dummy_count B i ≡ 0 = omega arith in rw (q, last_zero o P B R i) (block_from o P B R x i e h y.past)))

      table_ends : late_field late 2 (i + 1) ≡ move_place o P B R i (dummy_count B i) + jump_table B i
      table_ends =
          field_last o P B R s late y.moves (i + 1) (omega arith)
          ∙ late_next o P B R i
          ∙ ap (last_place o P B R i) many
          ∙ last_next o P B R i (dummy_count B i)
          ∙ ap (λ (n : ℕ). move_place o P B R i (dummy_count B i) + n) (length_table B i (dummy_count B i) (omega arith))

      part_ends : late_field late 0 (i + 1) ≡ move_source P B s i (dummy_count B i) + jump_table B i
      part_ends =
          field_source o P B R s late y.moves (i + 1) (omega arith)
          ∙ block_source_next P B s i on
          ∙ ap (λ (n : ℕ). move_source P B s i (dummy_count B i) + n) (length_table B i (dummy_count B i) (omega arith))

      pub hand_inside : x ≤ late_field late 2 (i + 1)
      hand_inside = omega (arith, field_last o P B R s late y.moves (i + 1) (omega arith), block_here o P B R x i e h)

      pub hand_rest : late_field late 2 (i + 1) ≤ x + late_field late 0 (i + 1)
      hand_rest = omega (arith, table_ends, part_ends, starts)

      pub hand_table : table_run late i x ≡ item_run o P B R s x i (run_item o P B R x i)
      unfolding table_run item_run
      hand_table =
          let z : run_item o P B R x i ≡ dummy_count B i = hand_item ∙ sym over ∙ last_item in
          let a : late_field late 2 (i + 1) - x ≡ move_place o P B R i (dummy_count B i) + jump_table B i - x = rw table_ends in
          let b : late_field late 0 (i + 1) - (late_field late 2 (i + 1) - x) ≡ move_source P B s i (dummy_count B i) + (x - move_place o P B R i (dummy_count B i)) =
          omega (arith, table_ends, part_ends, starts, hand_inside) in
          rw (z, le-leb _ _ starts, length_table B i (dummy_count B i) (omega arith), b, a)

    -- ---- the whole

    hand_row : row_run o B R late x i ≡ item_run o P B R s x i (run_item o P B R x i)
    hand_row = by-lt (dummy_over late i x) (dummy_count B i)
        (λ l.
        sym (row_word o B R late x i (row_dummies late i) (dummy_over late i x) refl refl (rw hand_dummies l))
        ∙ hand_run (dummy_over late i x) refl l (row_dummies late i) refl)
        (λ l.
        sym (row_table_lem o B R late x i (row_dummies late i) (dummy_over late i x) refl refl (rw hand_dummies l))
        ∙ hand_table (dummy_over late i x) refl l)

  -- the run that is read is the definition's
  pub hand_run_at : run_read o B R late x (block_count B) ≡ run_at o P B R s x
  unfolding run_at
  hand_run_at = by-lt (run_block o P B R x) (block_count B)
      (λ h.
      let i = run_block o P B R x in
      sym (read_row o B R late x (block_count B) i (sym hand_block) h) ∙ rw (lt-ltb i (block_count B) h) (hand_row i refl h))
      (λ h. sym (read_none o B R late x (block_count B) (rw hand_block h)) ∙ rw (le-ltb (run_block o P B R x) (block_count B) h))
