-- The laws of the late step, over its definitions: moves ascend in source and in place and never overlap, every search begins past the end of all moves before
-- it, and where nothing is at fault the moves lie inside .rodata. Each search begins at or past the last place, so places ascend whatever is found.
-- Assumes nothing.
use Prim.Native.Nat.{ℕ, zero, suc, ◌+◌, ◌≤◌, ◌<◌}
use mathlib.Core.Path.{◌≡◌, refl, sym, ◌∙◌}
use mathlib.Core.Logic.{⊎_elim}
use mathlib.Core.Bool.{true, false, ◌&&◌, ◌||◌}
use mathlib.Core.List.{List}
use native.Mathlib.Nat.{add-zero}
use native.Mathlib.Numerals.{add-one}
use native.Mathlib.Omega.{arith}
use lib.ListN.{length}
use lib.Dec.{eqb, ltb}
use borrow.Author.Tests.{lt-ltb, le-ltb}
use Rattle.base_lists.proofs.Ranges.{by-test, by-lt, both, and_parts, first_is, sum_zero, sum_next, sum_mono}
use Rattle.base_lists.specs.Rows.{has_index, row_in}
use Rattle.base_lists.proofs.Rows.{index_yes, Before}
use Rattle.base_fields.specs.declared.ByteOrder.{ByteOrder}
use Rattle.base_scope.specs.Codes.{LATE_TARGET}
use Rattle.late_length.specs.of_blocks_file.Blocks.{block_count}
use Rattle.late_length.specs.of_blocks_places.Lines.{line_count}
use Rattle.late_length.specs.of_blocks_places.Places.{Place, live, end_at}
use Rattle.late_length.specs.of_blocks_items.Items.{dummy_count, dummy_word, jump_table, late_bytes}
use Rattle.late_length.proofs.Late.{bytes_live}
use Rattle.late_dummies.specs.Dummies.{found, shifts, placed, is_lost}
use Rattle.late_dummies.proofs.Dummies.{found_low, placed_past, placed_fits, placed_shifted}
use Rattle.late_moves.specs.Moves.{is_dummy, first_of_many, item_length, item_place, item_fault, last_from, items, late_source, move_source, late_from, last_place, move_place, is_move_fault, late_step_fault, is_shifted}

-- ---- one item

module _ (B : List ℕ) (i k : ℕ) where
  pub dummy_yes : k < dummy_count B i → is_dummy B i k ≡ true
  unfolding is_dummy
  dummy_yes h = lt-ltb _ _ h

  pub dummy_no : dummy_count B i ≤ k → is_dummy B i k ≡ false
  unfolding is_dummy
  dummy_no h = le-ltb _ _ h

  pub length_dummy : k < dummy_count B i → item_length B i k ≡ 4
  unfolding item_length
  length_dummy h = rw (dummy_yes h)

  pub length_table : dummy_count B i ≤ k → item_length B i k ≡ jump_table B i
  unfolding item_length
  length_table h = rw (dummy_no h)

module _ (o : ByteOrder) (B R : List ℕ) (i last k : ℕ) where
  pub place_dummy : k < dummy_count B i → item_place o B R i last k ≡ placed o R (first_of_many B i k) last (dummy_word B i k)
  unfolding item_place
  place_dummy h = rw (dummy_yes B i k h)

  pub place_table_lem : dummy_count B i ≤ k → item_place o B R i last k ≡ last
  unfolding item_place
  place_table_lem h = rw (dummy_no B i k h)

  pub fault_dummy : k < dummy_count B i → item_fault o B R i last k ≡ is_lost o R (first_of_many B i k) last (dummy_word B i k)
  unfolding item_fault
  fault_dummy h = rw (dummy_yes B i k h)

  pub fault_table : dummy_count B i ≤ k
      → item_fault o B R i last k ≡ (ltb 0 (jump_table B i) && (eqb (dummy_count B i) 0 || ltb (length R) (last + jump_table B i)))
  unfolding item_fault
  fault_table h = rw (dummy_no B i k h)

  pub item_low : last ≤ item_place o B R i last k
  item_low = by-lt k (dummy_count B i)
      (λ h. rw (place_dummy h) (placed_past o R (first_of_many B i k) last (dummy_word B i k)))
      (λ h. rw (place_table_lem h) (omega arith))

  -- an item that is not at fault lies inside .rodata
  table_fits : (ltb 0 (jump_table B i) && (eqb (dummy_count B i) 0 || ltb (length R) (last + jump_table B i))) ≡ false → last ≤ length R
      → last + jump_table B i ≤ length R
  table_fits f l = by-lt 0 (jump_table B i)
      (λ h. by-lt (length R) (last + jump_table B i)
      (λ g. by-test (eqb (dummy_count B i) 0) (λ e. both (rw (lt-ltb _ _ h, e)) f) (λ e. both (rw (lt-ltb _ _ h, e, lt-ltb _ _ g)) f))
      (λ g. g))
      (λ h. omega arith)

  pub item_fits : item_fault o B R i last k ≡ false → last ≤ length R → item_place o B R i last k + item_length B i k ≤ length R
  item_fits f l = by-lt k (dummy_count B i)
      (λ h. rw (place_dummy h, length_dummy B i k h) (placed_fits o R (first_of_many B i k) last (dummy_word B i k) (sym (fault_dummy h) ∙ f)))
      (λ h. rw (place_table_lem h, length_table B i k h) (table_fits (sym (fault_table h) ∙ f) l))

module _ (o : ByteOrder) (B R : List ℕ) (i last : ℕ) where
  pub last_from_zero : last_from o B R i last 0 ≡ last
  unfolding last_from
  last_from_zero = refl

  pub last_from_next : (k : ℕ) → last_from o B R i last (k + 1) ≡ item_place o B R i (last_from o B R i last k) k + item_length B i k
  unfolding last_from
  last_from_next k = rw (add-one k)

-- ---- the items of a block, and their sources

module _ (P : List Place) (B : List ℕ) where
  pub items_live : (i : ℕ) → live P B i ≡ true → items P B i ≡ dummy_count B i + 1
  unfolding items
  items_live i t = rw t

  pub items_off : (i : ℕ) → live P B i ≡ false → items P B i ≡ 0
  unfolding items
  items_off i f = rw f

  -- a block that has an item is not switched off
  pub item_live : (i k : ℕ) → k < items P B i → live P B i ≡ true
  item_live i k h = by-test (live P B i) (λ t. t) (λ f. absurd (omega (arith, items_off i f)))

  pub item_index : (i k : ℕ) → k < items P B i → k ≤ dummy_count B i
  item_index i k h = omega (arith, items_live i (item_live i k h))

  module _ (s : ℕ) where
    pub source_zero : late_source P B s 0 ≡ s
    unfolding late_source
    source_zero = rw (sum_zero (late_bytes P B)) (add-zero s)

    pub source_next : (i : ℕ) → late_source P B s (i + 1) ≡ late_source P B s i + late_bytes P B i
    unfolding late_source
    source_next i = rw (sum_next (late_bytes P B) i) (omega arith)

    pub source_mono : (i j : ℕ) → i ≤ j → late_source P B s i ≤ late_source P B s j
    unfolding late_source
    source_mono i j h = omega (arith, sum_mono (late_bytes P B) i j h)

    -- the next item of a block follows in A's late span, and so does the next block
    pub item_source_next : (i k : ℕ) → k < dummy_count B i → move_source P B s i (k + 1) ≡ move_source P B s i k + item_length B i k
    unfolding move_source
    item_source_next i k h = rw (length_dummy B i k h) (omega arith)

    pub block_source_next : (i : ℕ) → live P B i ≡ true
        → late_source P B s (i + 1) ≡ move_source P B s i (dummy_count B i) + item_length B i (dummy_count B i)
    unfolding move_source
    block_source_next i t = rw (length_table B i (dummy_count B i) (omega arith)) (omega (arith, source_next i, bytes_live P B i t))

    source_low : (i k : ℕ) → late_source P B s i ≤ move_source P B s i k
    unfolding move_source
    source_low i k = omega arith

    source_up : (i k l : ℕ) → k ≤ l → move_source P B s i k ≤ move_source P B s i l
    unfolding move_source
    source_up i k l h = omega arith

    -- an item ends in its block's part
    pub source_end : (i k : ℕ) → k < items P B i → move_source P B s i k + item_length B i k ≤ late_source P B s (i + 1)
    source_end i k h =
        let e = block_source_next i (item_live i k h) in
        by-lt k (dummy_count B i)
        (λ l. omega (arith, item_source_next i k l, source_up i (k + 1) (dummy_count B i) (omega arith)))
        (λ l. let q : k ≡ dummy_count B i = omega (arith, item_index i k h) in rw q (omega arith))

-- ---- the order of items

module _ (P : List Place) (B : List ℕ) (s : ℕ) where
  -- sources ascend and never overlap
  pub sources_ascend : (i k j l : ℕ) → k < items P B i → l < items P B j → Before i k j l
      → move_source P B s i k + item_length B i k ≤ move_source P B s j l
  sources_ascend i k j l h g order = ⊎_elim
      (λ u. omega (arith, source_end P B s i k h, source_mono P B s (i + 1) j (omega arith), source_low P B s j l))
      (λ u.
      let m : l < items P B i = rw u.0 g in
      let n : k < dummy_count B i = omega (arith, u.1, item_index P B i l m) in
      rw (← u.0) (omega (arith, u.1, item_source_next P B s i k n, source_up P B s i (k + 1) l (omega arith))))
      order

-- ---- places

module _ (o : ByteOrder) (P : List Place) (B R : List ℕ) where
  pub late_zero : late_from o P B R 0 ≡ end_at P B (line_count B) LATE_TARGET
  unfolding late_from
  late_zero = refl

  pub late_next : (i : ℕ) → late_from o P B R (i + 1) ≡ last_place o P B R i (items P B i)
  unfolding late_from last_place
  late_next i = rw (add-one i)

  pub last_zero : (i : ℕ) → last_place o P B R i 0 ≡ late_from o P B R i
  unfolding last_place
  last_zero i = last_from_zero o B R i (late_from o P B R i)

  pub last_next : (i k : ℕ) → last_place o P B R i (k + 1) ≡ move_place o P B R i k + item_length B i k
  unfolding last_place move_place
  last_next i k = last_from_next o B R i (late_from o P B R i) k

  pub place_low : (i k : ℕ) → last_place o P B R i k ≤ move_place o P B R i k
  unfolding move_place
  place_low i k = item_low o B R i (last_place o P B R i k) k

  last_mono : (i k l : ℕ) → k ≤ l → last_place o P B R i k ≤ last_place o P B R i l
  last_mono i k zero h = let e : k ≡ 0 = omega arith in rw e (omega arith)
  last_mono i k (suc l) h = by-lt l k
      (λ g. let e : k ≡ suc l = omega arith in rw e (omega arith))
      (λ g. rw (← add-one l) (omega (arith, last_mono i k l g, last_next i l, place_low i l)))

  pub last_low : (i k : ℕ) → late_from o P B R i ≤ last_place o P B R i k
  last_low i k = omega (arith, last_zero i, last_mono i 0 k (omega arith))

  pub late_mono : (i j : ℕ) → i ≤ j → late_from o P B R i ≤ late_from o P B R j
  late_mono i zero h = let e : i ≡ 0 = omega arith in rw e (omega arith)
  late_mono i (suc j) h = by-lt j i
      (λ g. let e : i ≡ suc j = omega arith in rw e (omega arith))
      (λ g. rw (← add-one j) (omega (arith, late_mono i j g, late_next j, last_low j (items P B j))))

  -- an item ends at or before the last place behind its block
  pub place_end : (i k : ℕ) → k < items P B i → move_place o P B R i k + item_length B i k ≤ late_from o P B R (i + 1)
  place_end i k h = omega (arith, last_next i k, late_next i, last_mono i (k + 1) (items P B i) (omega arith))

  -- every search begins at or past the end of all moves before it
  pub search_past : (i k j l : ℕ) → k < items P B i → Before i k j l → move_place o P B R i k + item_length B i k ≤ last_place o P B R j l
  search_past i k j l h order = ⊎_elim
      (λ u. omega (arith, place_end i k h, late_mono (i + 1) j (omega arith), last_low j l))
      (λ u. rw (← u.0) (omega (arith, last_next i k, last_mono i (k + 1) l (omega (arith, u.1)))))
      order

  -- so places ascend and never overlap
  pub places_ascend : (i k j l : ℕ) → k < items P B i → Before i k j l → move_place o P B R i k + item_length B i k ≤ move_place o P B R j l
  places_ascend i k j l h order = omega (arith, search_past i k j l h order, place_low j l)

  -- all of them lie at or past the end of the last .rodata block copied
  pub last_past : (i k : ℕ) → end_at P B (line_count B) LATE_TARGET ≤ last_place o P B R i k
  last_past i k = omega (arith, late_zero, late_mono 0 i (omega arith), last_low i k)

  pub place_past : (i k : ℕ) → end_at P B (line_count B) LATE_TARGET ≤ move_place o P B R i k
  place_past i k = omega (arith, last_past i k, place_low i k)

  -- ---- zeroed words

  shifted_parts : (i k : ℕ) → is_shifted o P B R i k ≡ true
      → (is_dummy B i k ≡ true) × (shifts o R (first_of_many B i k) (last_place o P B R i k) (dummy_word B i k) ≡ true)
  unfolding is_shifted
  shifted_parts i k t = and_parts (is_dummy B i k) _ t

  -- a zeroed word is the one before its move, and lies at or past the end of all moves before it
  pub shifted_place : (i k : ℕ) → is_shifted o P B R i k ≡ true
      → move_place o P B R i k ≡ found o R (last_place o P B R i k) (dummy_word B i k) + 4
  unfolding move_place item_place
  shifted_place i k t =
      let r = shifted_parts i k t in
      rw r.0 (placed_shifted o R (first_of_many B i k) (last_place o P B R i k) (dummy_word B i k) r.1)

  pub shifted_low : (i k : ℕ) → is_shifted o P B R i k ≡ true → last_place o P B R i k + 4 ≤ move_place o P B R i k
  shifted_low i k t = omega (arith, shifted_place i k t, found_low o R (dummy_word B i k) (last_place o P B R i k))

  -- ---- a late step that is accepted

  fault_yes : (i k : ℕ) → k < items P B i → is_move_fault o P B R i k ≡ true → has_index (is_move_fault o P B R) (items P B) i ≡ true
  fault_yes i k h t = index_yes (is_move_fault o P B R) (items P B) i k h t

  pub sound_item : (n i k : ℕ) → late_step_fault o P B R ≡ n → i < n → i < block_count B → k < items P B i → is_move_fault o P B R i k ≡ false
  unfolding late_step_fault row_in
  sound_item n i k e h g l =
      let f : has_index (is_move_fault o P B R) (items P B) i ≡ false =
      (first_is (has_index (is_move_fault o P B R) (items P B)) 0 (block_count B) (omega arith)).below i (omega arith) (rw e h) in
      by-test (is_move_fault o P B R i k) (λ t. both (fault_yes i k l t) f) (λ n. n)

  module _ (start : end_at P B (line_count B) LATE_TARGET ≤ length R) where
    item_inside : (i k : ℕ) → is_move_fault o P B R i k ≡ false → last_place o P B R i k ≤ length R
        → move_place o P B R i k + item_length B i k ≤ length R
    unfolding is_move_fault move_place
    item_inside i k f h = item_fits o B R i (last_place o P B R i k) k f h

    -- where no item of the blocks up to i is at fault, its places and the last place behind it lie inside .rodata
    last_inside : (i k : ℕ) → late_from o P B R i ≤ length R → ((l : ℕ) → l < k → is_move_fault o P B R i l ≡ false) → last_place o P B R i k ≤ length R
    last_inside i zero h sound = rw (last_zero i) h
    last_inside i (suc k) h sound =
        rw (← add-one k) (rw (last_next i k) (item_inside i k (sound k (omega arith)) (last_inside i k h (λ l g. sound l (omega arith)))))

    pub late_inside_lem : (n i : ℕ) → late_step_fault o P B R ≡ n → i ≤ n → i ≤ block_count B → late_from o P B R i ≤ length R
    late_inside_lem n zero e h g = rw late_zero start
    late_inside_lem n (suc i) e h g =
        rw (← add-one i) (rw (late_next i) (last_inside i (items P B i) (late_inside_lem n i e (omega arith) (omega arith))
        (λ l u. sound_item n i l e (omega arith) (omega arith) u)))

    -- every move of an accepted late step lies inside .rodata
    pub place_inside : (i k : ℕ) → late_step_fault o P B R ≡ block_count B → i < block_count B → k < items P B i
        → move_place o P B R i k + item_length B i k ≤ length R
    place_inside i k e h l =
        omega (arith, place_end i k l, late_inside_lem (block_count B) (i + 1) e (omega arith) (omega arith))
