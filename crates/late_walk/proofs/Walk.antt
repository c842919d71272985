-- The laws of the walk: what its step tells of a block, the turns of its loop, and that the table which it leaves where nothing is at fault holds every row and
-- every place. Assumes nothing.
use Rattle.std.specs.Prelude.{None, Some, Option}
use Prim.Native.Nat.{ℕ, ◌+◌, ◌*◌, min, ◌≤◌, ◌<◌}
use mathlib.Core.Path.{◌≡◌, refl, sym, ap, ◌∙◌}
use mathlib.Core.Bool.{Bool, true, false}
use mathlib.Core.List.{List}
use native.Mathlib.Omega.{arith}
use lib.ListN.{length}
use lib.Dec.{ltb}
use borrow.Author.Tests.{lt-ltb, le-ltb, ltb-false}
use Rattle.base_lists.specs.Ranges.{first}
use Rattle.base_lists.specs.Windows.{spliced}
use Rattle.base_lists.proofs.Ranges.{first_here, first_next, first_end, first_high, first_ext, sum_mono}
use Rattle.base_lists.proofs.Windows.{within_spliced, length_spliced, spliced_comm}
use Rattle.base_lists.specs.Rows.{index_in, has_index, row_in}
use Rattle.base_lists.proofs.Rows.{none_index}
use Rattle.base_fields.specs.declared.ByteOrder.{ByteOrder}
use Rattle.base_scope.specs.Limits.{FILE_LIMIT, BLOCK_LIMIT, DUMMY_LIMIT, LATE_ROW, LATE_WORDS, LATE_TABLE}
use Rattle.base_scope.specs.Refusals.{pick_finding, found_below}
use Rattle.blocks_file.specs.Blocks.{block_count}
use Rattle.blocks_file.proofs.Blocks.{count_high}
use Rattle.late_blocks.specs.of_blocks_places.Places.{Place}
use Rattle.late_blocks.specs.of_blocks_items.Items.{late_bytes, late_length}
use Rattle.late_blocks.specs.of_late_length.declared.LateStep.{LateStep}
use Rattle.late_blocks.specs.of_late_moves.Moves.{last_from, items, late_source, late_from, last_place, is_move_fault, late_step_fault}
use Rattle.late_blocks.proofs.of_late_moves.Moves.{source_zero, source_next, late_zero, late_next}
use Rattle.late_walk.specs.declared.LateRow.{LateRow}
use Rattle.late_blocks.specs.Items.{fault_from, sound_items, place_words}
use Rattle.late_walk.specs.Steps.{live_dummies, pick_block_step, block_step, AtBlock}
use Rattle.late_walk.specs.Table.{dummy_index, late_row_bytes, late_row_of, row_table, block_words, word_table, filled, Ready, Walk, Moves}
use Rattle.late_blocks.proofs.Items.{sound_high, sound_inside}
use Rattle.late_walk.proofs.Table.{length_rows, index_zero_lem, index_next, index_few, words_zero, block_room, words_full, length_words, filled_none, filled_row, filled_words, length_filled}

-- ---- what a step tells

next_inj : (a b : LateRow) → Some a ≡ Some b → a ≡ b
next_inj a b e = cc

next_stop : {A : Type 0} (p q : A) (a : LateRow) → Some a ≡ None → p ≡ q
next_stop p q a e = cc

-- the row of a step, and the test that it passed
pub record Told (t : Bool) (a x : LateRow) : Type 0 where
  pub sound : t ≡ false
  pub row : x ≡ a

told_next : (t : Bool) (a x : LateRow) (r : Option LateRow) → r ≡ pick_block_step t None (Some a) → r ≡ Some x → Told t a x
told_next true a x r e q = record { sound = next_stop true false x (sym q ∙ e); row = next_stop x a x (sym q ∙ e) }
told_next false a x r e q = record { sound = refl; row = next_inj x a (sym q ∙ e) }

told_stop : (t : Bool) (a : LateRow) (r : Option LateRow) → r ≡ pick_block_step t None (Some a) → r ≡ None → t ≡ true
told_stop true a r e q = refl
told_stop false a r e q = next_stop false true a (sym e ∙ q)

module _ (o : ByteOrder) (P : List Place) (B R : List ℕ) (i : ℕ) where
  pub same_fault : (k : ℕ) → fault_from o B R i (late_from o P B R i) k ≡ is_move_fault o P B R i k
  unfolding fault_from is_move_fault last_place
  same_fault k = refl

  -- a block's items as they follow from the last place before it
  step_fault : ltb (sound_items o B R i (late_from o P B R i) (items P B i)) (items P B i) ≡ has_index (is_move_fault o P B R) (items P B) i
  unfolding sound_items has_index index_in
  step_fault =
      ap (λ (n : ℕ). ltb n (items P B i))
      (first_ext (fault_from o B R i (late_from o P B R i)) (is_move_fault o P B R i) 0 (items P B i) (λ k l u. same_fault k))

  step_last : late_from o P B R (i + 1) ≡ last_from o B R i (late_from o P B R i) (items P B i)
  unfolding last_place
  step_last = late_next o P B R i

  -- where no item of a block is at fault, the last place behind it lies inside .rodata
  step_inside : has_index (is_move_fault o P B R) (items P B) i ≡ false → late_from o P B R i ≤ length R → late_from o P B R (i + 1) ≤ length R
  step_inside f h =
      let n : items P B i ≤ sound_items o B R i (late_from o P B R i) (items P B i) =
      ltb-false (sound_items o B R i (late_from o P B R i) (items P B i)) (items P B i) (step_fault ∙ f) in
      let e : sound_items o B R i (late_from o P B R i) (items P B i) ≡ items P B i =
      omega (arith, sound_high o B R i (late_from o P B R i) (items P B i)) in
      rw step_last (sound_inside o B R i (late_from o P B R i) (items P B i) h e)

  -- the step from the row of block i: the row of the next one, or that the block is at fault
  step_is : (s : ℕ) → block_step o P B R i (late_row_of o P B R s i) ≡ pick_block_step (has_index (is_move_fault o P B R) (items P B) i) None (Some (late_row_of o P B R s (i + 1)))
  unfolding block_step late_row_of
  step_is s = rw (← step_fault, step_last, source_next P B s i, index_next P B i)

  module _ (s : ℕ) (row : LateRow) (r : Option LateRow) (is : r ≡ block_step o P B R i row) (before : row ≡ late_row_of o P B R s i) where
    pub step_next : (x : LateRow) → r ≡ Some x → Told (has_index (is_move_fault o P B R) (items P B) i) (late_row_of o P B R s (i + 1)) x
    step_next x q = told_next _ _ x r (is ∙ ap (block_step o P B R i) before ∙ step_is s) q

    pub step_stop : r ≡ None → has_index (is_move_fault o P B R) (items P B) i ≡ true
    step_stop q = told_stop _ _ r (is ∙ ap (block_step o P B R i) before ∙ step_is s) q

-- ---- the loop

-- the first i blocks are placed: their rows and the places of their dummies stand in the table, and `row` is what block i goes by
pub record WalkingBlocks (o : ByteOrder) (P : List Place) (B R : List ℕ) (s : ℕ) (before : List ℕ) (i : ℕ) (row : LateRow) (late : List ℕ) : Type 0 where
  pub few : i ≤ block_count B
  pub is : row ≡ late_row_of o P B R s i
  pub inside : late_from o P B R i ≤ length R
  pub clear : late_step_fault o P B R ≡ first (has_index (is_move_fault o P B R) (items P B)) i (block_count B)
  pub full : length (word_table o P B R i) ≡ 3 * dummy_index P B i
  pub long : length late ≡ length before
  pub table : late ≡ filled o P B R s before i i

pub walking_none : (o : ByteOrder) (P : List Place) (B R table places : List ℕ) (blocks : ℕ) (step : LateStep) (late : List ℕ) → Ready P B R table places blocks step
    → WalkingBlocks o P B R step.start late 0 (record { source = step.start; dummies = 0; last = step.last }) late
unfolding late_step_fault row_in late_row_of
walking_none o P B R table places blocks step late y = record {
  few = omega arith;
  is = rw (source_zero P B step.start, index_zero_lem P B, y.from, late_zero o P B R);
  inside = rw (late_zero o P B R, ← y.from) y.inside;
  clear = refl;
  full = rw (words_zero o P B R, index_zero_lem P B);
  long = refl;
  table = sym (filled_none o P B R step.start late);
}

module _ (o : ByteOrder) (P : List Place) (B R table places : List ℕ) (blocks : ℕ) (step : LateStep) (y : Ready P B R table places blocks step) (before : List ℕ) (room : LATE_TABLE ≤ length before) (i : ℕ) (row : LateRow) (late : List ℕ) (w : WalkingBlocks o P B R step.start before i row late) where
  row_source : row.source ≡ late_source P B step.start i
  unfolding late_row_of
  row_source = ap (λ (r : LateRow). r.source) w.is

  row_dummies_lem : row.dummies ≡ dummy_index P B i
  unfolding late_row_of
  row_dummies_lem = ap (λ (r : LateRow). r.dummies) w.is

  row_last : row.last ≡ late_from o P B R i
  unfolding late_row_of
  row_last = ap (λ (r : LateRow). r.last) w.is

  -- the three numbers are small, and the table has room
  pub walking_offset : row.source ≤ FILE_LIMIT
  unfolding late_source late_length
  walking_offset = omega (arith, row_source, y.span, sum_mono (late_bytes P B) i (block_count B) w.few)

  pub walking_few : row.dummies ≤ DUMMY_LIMIT
  walking_few = omega (arith, row_dummies_lem, index_few P B i w.few y.parsed.small)

  pub walking_inside : row.last ≤ length R
  walking_inside = rw row_last w.inside

  words_fit : LATE_WORDS + length (word_table o P B R i) ≤ length before
  words_fit = omega (arith, w.full, row_dummies_lem, walking_few)

  -- row i can be written
  pub row_room : (LATE_ROW * i + LATE_ROW ≤ length late) × (i ≤ BLOCK_LIMIT) × (row.source ≤ FILE_LIMIT) × (row.dummies ≤ DUMMY_LIMIT) × (row.last ≤ FILE_LIMIT)
  row_room =
      let n : i ≤ BLOCK_LIMIT = omega (arith, w.few, count_high B) in
      (omega (arith, w.long), n, walking_offset, walking_few, omega (arith, walking_inside, y.small))

  module _ (rowed : List ℕ) (e : rowed ≡ spliced late (LATE_ROW * i) (late_row_bytes row)) where
    -- and is
    rowed_is : rowed ≡ filled o P B R step.start before (i + 1) i
    rowed_is = e ∙ rw (w.is, w.table) (filled_row o P B R step.start before i (omega (arith, w.few, count_high B)) words_fit)

    rowed_long : length rowed ≡ length before
    rowed_long = rw rowed_is (length_filled o P B R step.start before (i + 1) i (omega (arith, w.few, count_high B)) words_fit)

    -- the end of the file: all blocks are placed
    pub walking_end : block_count B ≤ i → Walk o P B R step.start None before rowed
    unfolding found_below
    walking_end h =
        let q : i ≡ block_count B = omega (arith, w.few) in
        let f : late_step_fault o P B R ≡ i = w.clear ∙ first_end (has_index (is_move_fault o P B R) (items P B)) i (block_count B) h in
        let m : min (i + 1) (block_count B) ≡ i = omega arith in
        record {
          answer = rw (f, le-ltb i (block_count B) h);
          table = rowed_is ∙ rw (f, m);
        }

    module _ (h : i < block_count B) where
      -- the table has room for the dummies of block i
      words_room : LATE_WORDS + 3 * (row.dummies + live_dummies P B i) ≤ length before
      words_room = omega (arith, row_dummies_lem, index_next P B i, index_few P B (i + 1) (omega arith) y.parsed.small)

      pub at_block : AtBlock P B R table places rowed i row
      at_block = record {
        parsed = y.parsed;
        placed = y.placed;
        counted = h;
        small = y.small;
        inside = walking_inside;
        offset = walking_offset;
        few = walking_few;
        room = omega (arith, rowed_long, words_room);
      }

      -- block i is stepped over: then the places of its dummies stand in the table
      module _ (after : List ℕ) (k : after ≡ spliced rowed (LATE_WORDS + 3 * row.dummies) (place_words o B R i row.last (live_dummies P B i))) where
        stepped : after ≡ filled o P B R step.start before (i + 1) (i + 1)
        unfolding block_words
        stepped =
            let a : LATE_WORDS + 3 * row.dummies ≡ LATE_WORDS + length (word_table o P B R i) = omega (arith, w.full, row_dummies_lem) in
            let g : LATE_WORDS + 3 * row.dummies + length (block_words o P B R i) ≤ length before = omega (arith, block_room o P B R i, words_room) in
            k ∙ rw (row_last, rowed_is) (filled_words o P B R step.start before i (i + 1) (LATE_WORDS + 3 * row.dummies) (omega (arith, count_high B)) a g)

        pub walking_stop : has_index (is_move_fault o P B R) (items P B) i ≡ true → Walk o P B R step.start (Some i) before after
        unfolding found_below
        walking_stop t =
            let f : late_step_fault o P B R ≡ i = w.clear ∙ first_here (has_index (is_move_fault o P B R) (items P B)) i (block_count B) h t in
            let m : min (i + 1) (block_count B) ≡ i + 1 = omega arith in
            record {
              answer = rw (f, lt-ltb i (block_count B) h);
              table = stepped ∙ rw (f, m);
            }

        pub walking_next : (x : LateRow) → Told (has_index (is_move_fault o P B R) (items P B) i) (late_row_of o P B R step.start (i + 1)) x → WalkingBlocks o P B R step.start before (i + 1) x after
        walking_next x t =
            let all = words_full o P B R i (λ k l. none_index (is_move_fault o P B R) (items P B) i k t.sound l) w.full in
            record {
              few = omega arith;
              is = t.row;
              inside = step_inside o P B R i t.sound w.inside;
              clear = w.clear ∙ first_next (has_index (is_move_fault o P B R) (items P B)) i (block_count B) h t.sound;
              full = all;
              long = rw stepped (length_filled o P B R step.start before (i + 1) (i + 1) (omega (arith, count_high B)) (omega (arith, row_dummies_lem, index_next P B i, words_room)));
              table = stepped;
            }

-- ---- the table that is left where nothing is at fault

told_clear : (n k : ℕ) (t : Bool) → None ≡ pick_finding t (Some k) None → t ≡ false
told_clear n k true e = cc
told_clear n k false e = refl

module _ (o : ByteOrder) (P : List Place) (B R : List ℕ) (s : ℕ) (before after : List ℕ) (w : Walk o P B R s None before after) where
  no_fault : late_step_fault o P B R ≡ block_count B
  unfolding found_below late_step_fault row_in
  no_fault =
      let f = told_clear (block_count B) (late_step_fault o P B R) (ltb (late_step_fault o P B R) (block_count B)) w.answer in
      let h = ltb-false (late_step_fault o P B R) (block_count B) f in
      omega (arith, h, first_high (has_index (is_move_fault o P B R) (items P B)) 0 (block_count B) (omega arith))

  pub moves_of : LATE_TABLE ≤ length before → length B ≤ FILE_LIMIT → Moves o P B R s after
  unfolding filled
  moves_of room small =
      let n = block_count B in
      let rows = row_table o P B R s (n + 1) in
      let words = word_table o P B R n in
      let a : length rows ≡ LATE_ROW * (n + 1) = length_rows o P B R s (n + 1) in
      let b : length words ≡ 3 * dummy_index P B n = length_words o P B R n no_fault (omega arith) in
      let g : 0 + length rows ≤ length before = omega (arith, count_high B) in
      let h : LATE_WORDS + length words ≤ length before = omega (arith, index_few P B n (omega arith) small) in
      let q : length (spliced before 0 rows) ≡ length before = length_spliced before 0 rows g in
      let m : min (n + 1) n ≡ n = omega arith in
      let e : after ≡ spliced (spliced before 0 rows) LATE_WORDS words = w.table ∙ rw (no_fault, m) in
      let p : spliced (spliced before 0 rows) LATE_WORDS words ≡ spliced (spliced before LATE_WORDS words) 0 rows =
      sym (spliced_comm before 0 rows LATE_WORDS words (omega (arith, count_high B)) h) in
      let v : length (spliced before LATE_WORDS words) ≡ length before = length_spliced before LATE_WORDS words h in
      record {
        clear = no_fault;
        rows = rw (e, p) (within_spliced (spliced before LATE_WORDS words) 0 rows (rw v g));
        words = rw e (within_spliced (spliced before 0 rows) LATE_WORDS words (rw q h));
      }
