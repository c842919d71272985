-- The laws of what the late step comes to: a byte is covered by one move at most, a zeroed word by none; the final .rodata byte by byte and part by part; a late
-- offset moves to a place of its own. Each comes from the order of the items. Assumes nothing.
use Prim.Native.Nat.{ℕ, ◌+◌, ◌-◌, ◌%◌, ◌≤◌, ◌<◌}
use mathlib.Core.Path.{◌≡◌, refl, sym, ap, ◌∙◌}
use mathlib.Core.Bool.{true, false}
use mathlib.Core.List.{List}
use native.Mathlib.Omega.{arith}
use lib.ListN.{length, take, drop, get_or}
use lib.Dec.{eqb, leb}
use borrow.Author.Tests.{lt-ltb, le-leb, lt-leb, ltb-true, leb-true, eq-eqb, eqb-true}
use Rattle.base_lists.proofs.Ranges.{by-test, and_parts, and_true, select_all_at, select_all_length}
use Rattle.base_lists.proofs.Windows.{part_same}
use Rattle.base_lists.specs.Rows.{has_row}
use Rattle.base_lists.proofs.Rows.{Hit, row_yes, row_none, none_row, row_hit, row_is, Before, by_order}
use Rattle.base_fields.specs.declared.ByteOrder.{ByteOrder}
use Rattle.base_scope.specs.Codes.{LATE_TARGET}
use Rattle.late_length.specs.of_blocks_file.Blocks.{block_count}
use Rattle.late_length.specs.of_blocks_places.Lines.{line_count}
use Rattle.late_length.specs.of_blocks_places.Places.{Place, live, end_at}
use Rattle.late_length.specs.of_blocks_items.Items.{dummy_count, jump_table}
use Rattle.late_moves.specs.Moves.{item_length, items, move_source, last_place, move_place, late_step_fault, is_shifted}
use Rattle.late_moves.specs.Moved.{is_in, is_word, table_word, is_jump_word, move_covers, zeroes, starts, is_moved, moved_block, moved_item, place_in_move, moved_place, offset_in_move, covered_by, late_byte, late_rodata}
use Rattle.late_moves.proofs.Moves.{length_table, items_live, item_live, sources_ascend, search_past, places_ascend, last_past, place_past, shifted_low, place_inside}

-- ---- ranges

pub in_yes : (a n x : ℕ) → a ≤ x → x < a + n → is_in a n x ≡ true
unfolding is_in
in_yes a n x h l = and_true (leb a x) _ (le-leb a x h) (lt-ltb _ _ l)

pub in_parts : (a n x : ℕ) → is_in a n x ≡ true → (a ≤ x) × (x < a + n)
unfolding is_in
in_parts a n x t = let r = and_parts (leb a x) _ t in (leb-true _ _ r.0, ltb-true _ _ r.1)

pub in_low : (a n x : ℕ) → x < a → is_in a n x ≡ false
unfolding is_in
in_low a n x h = rw (lt-leb a x h)

pub in_high : (a n x : ℕ) → a + n ≤ x → is_in a n x ≡ false
in_high a n x h = by-test (is_in a n x) (λ t. absurd (omega (arith, (in_parts a n x t).1))) (λ f. f)

pub word_yes : (a n x : ℕ) → a ≤ x → x < a + n → (x - a) % 4 ≡ 0 → is_word a n x ≡ true
unfolding is_word
word_yes a n x h l e = and_true (is_in a n x) _ (in_yes a n x h l) (eq-eqb _ _ e)

pub word_in : (a n x : ℕ) → is_word a n x ≡ true → (a ≤ x) × (x < a + n)
unfolding is_word
word_in a n x t = in_parts a n x (and_parts (is_in a n x) _ t).0

pub word_fourth : (a n x : ℕ) → is_word a n x ≡ true → (x - a) % 4 ≡ 0
unfolding is_word
word_fourth a n x t = eqb-true _ _ (and_parts (is_in a n x) _ t).1

-- ---- late offsets

module _ (P : List Place) (B : List ℕ) (s : ℕ) where
  pub start_in : (x i k : ℕ) → starts P B s x i k ≡ true → (move_source P B s i k ≤ x) × (x < move_source P B s i k + item_length B i k)
  unfolding starts
  start_in x i k t = word_in (move_source P B s i k) (item_length B i k) x t

  -- an offset lies in one item, also where no word starts
  pub source_once : (x i k j l : ℕ) → k < items P B i → l < items P B j
      → move_source P B s i k ≤ x → x < move_source P B s i k + item_length B i k → move_source P B s j l ≤ x → x < move_source P B s j l + item_length B j l
      → (j ≡ i) × (l ≡ k)
  source_once x i k j l h g a b c d = by_order i k j l
      (λ u. absurd (omega (arith, sources_ascend P B s i k j l h g u)))
      (λ u. absurd (omega (arith, sources_ascend P B s j l i k g h u)))
      (λ e f. (sym e, sym f))

  pub start_once : (x i k j l : ℕ) → k < items P B i → l < items P B j → starts P B s x i k ≡ true → starts P B s x j l ≡ true → (j ≡ i) × (l ≡ k)
  start_once x i k j l h g t u =
      let a = start_in x i k t in
      let b = start_in x j l u in
      source_once x i k j l h g a.0 a.1 b.0 b.1

  pub moved_yes : (x i k : ℕ) → i < block_count B → k < items P B i → starts P B s x i k ≡ true → is_moved P B s x ≡ true
  unfolding is_moved
  moved_yes x i k h g t = row_yes (starts P B s x) (items P B) (block_count B) i k h g t

  pub moved_no : (x : ℕ) → ((i k : ℕ) → i < block_count B → k < items P B i → starts P B s x i k ≡ false) → is_moved P B s x ≡ false
  unfolding is_moved
  moved_no x none = row_none (starts P B s x) (items P B) (block_count B) none

  -- the item that an offset that is moved is a word of
  pub moved_hit : (x : ℕ) → is_moved P B s x ≡ true → Hit (starts P B s x) (items P B) (block_count B) (moved_block P B s x) (moved_item P B s x)
  unfolding is_moved moved_block moved_item
  moved_hit x t = row_hit (starts P B s x) (items P B) (block_count B) t

  -- and it is the only one
  pub moved_item_lem : (x i k : ℕ) → i < block_count B → k < items P B i → starts P B s x i k ≡ true → (moved_block P B s x ≡ i) × (moved_item P B s x ≡ k)
  unfolding moved_block moved_item
  moved_item_lem x i k h g t =
      row_is (starts P B s x) (items P B) (block_count B) i k h g t (λ j l hit. start_once x i k j l g hit.column t hit.passes)

module _ (o : ByteOrder) (P : List Place) (B R : List ℕ) where
  -- ---- moves over .rodata

  pub cover_in : (x i k : ℕ) → move_covers o P B R x i k ≡ true → (move_place o P B R i k ≤ x) × (x < move_place o P B R i k + item_length B i k)
  unfolding move_covers
  cover_in x i k t = in_parts (move_place o P B R i k) (item_length B i k) x t

  pub cover_yes : (x i k : ℕ) → move_place o P B R i k ≤ x → x < move_place o P B R i k + item_length B i k → move_covers o P B R x i k ≡ true
  unfolding move_covers
  cover_yes x i k h l = in_yes (move_place o P B R i k) (item_length B i k) x h l

  pub cover_low : (x i k : ℕ) → x < move_place o P B R i k → move_covers o P B R x i k ≡ false
  unfolding move_covers
  cover_low x i k h = in_low (move_place o P B R i k) (item_length B i k) x h

  pub cover_high : (x i k : ℕ) → move_place o P B R i k + item_length B i k ≤ x → move_covers o P B R x i k ≡ false
  unfolding move_covers
  cover_high x i k h = in_high (move_place o P B R i k) (item_length B i k) x h

  -- no byte lies in two moves
  pub cover_once : (x i k j l : ℕ) → k < items P B i → l < items P B j
      → move_place o P B R i k ≤ x → x < move_place o P B R i k + item_length B i k → move_place o P B R j l ≤ x → x < move_place o P B R j l + item_length B j l
      → (i ≡ j) × (k ≡ l)
  cover_once x i k j l h g a b c d = by_order i k j l
      (λ u. absurd (omega (arith, places_ascend o P B R i k j l h u)))
      (λ u. absurd (omega (arith, places_ascend o P B R j l i k g u)))
      (λ e f. (e, f))

  -- a zeroed word is the one before its move
  pub zero_in : (x j l : ℕ) → zeroes o P B R x j l ≡ true
      → (is_shifted o P B R j l ≡ true) × (last_place o P B R j l ≤ x) × (x < move_place o P B R j l) × (move_place o P B R j l ≤ x + 4)
  unfolding zeroes
  zero_in x j l t =
      let r = and_parts (is_shifted o P B R j l) _ t in
      let m = shifted_low o P B R j l r.0 in
      let q = in_parts (move_place o P B R j l - 4) 4 x r.1 in
      (r.0, omega (arith, q.0), omega (arith, q.1), omega (arith, q.0))

  pub zero_yes : (x j l : ℕ) → is_shifted o P B R j l ≡ true → move_place o P B R j l ≤ x + 4 → x < move_place o P B R j l → zeroes o P B R x j l ≡ true
  unfolding zeroes
  zero_yes x j l t h g =
      let m = shifted_low o P B R j l t in
      and_true (is_shifted o P B R j l) _ t (in_yes (move_place o P B R j l - 4) 4 x (omega arith) (omega arith))

  -- and no move covers it
  pub zero_apart : (x i k j l : ℕ) → k < items P B i → l < items P B j → zeroes o P B R x j l ≡ true → move_covers o P B R x i k ≡ false
  zero_apart x i k j l h g t =
      let z = zero_in x j l t in
      by_order i k j l
      (λ u. cover_high x i k (omega (arith, z.1, search_past o P B R i k j l h u)))
      (λ u. cover_low x i k (omega (arith, z.2, places_ascend o P B R j l i k g u)))
      (λ e f. rw (e, f) (cover_low x j l z.2))

  -- a search sees no byte that an earlier item writes: it begins at or past the end of all of them, so searching .rodata with the moves so far finds the same
  pub seen_uncovered : (x i k j l : ℕ) → k < items P B i → Before i k j l → last_place o P B R j l ≤ x → move_covers o P B R x i k ≡ false
  seen_uncovered x i k j l h u g = cover_high x i k (omega (arith, search_past o P B R i k j l h u))

  pub seen_unzeroed : (x i k j l : ℕ) → k < items P B i → Before i k j l → last_place o P B R j l ≤ x → zeroes o P B R x i k ≡ false
  seen_unzeroed x i k j l h u g = by-test (zeroes o P B R x i k)
      (λ t. absurd (omega (arith, (zero_in x i k t).2, search_past o P B R i k j l h u)))
      (λ f. f)

  -- nothing is written in front of the end of the last .rodata block copied
  pub cover_past : (x i k : ℕ) → x < end_at P B (line_count B) LATE_TARGET → move_covers o P B R x i k ≡ false
  cover_past x i k h = cover_low x i k (omega (arith, place_past o P B R i k))

  -- ---- jump-table words

  table_yes : (x i k : ℕ) → k ≡ dummy_count B i → is_word (move_place o P B R i k) (item_length B i k) x ≡ true → table_word o P B R x i k ≡ true
  unfolding table_word
  table_yes x i k e w = and_true (eqb k (dummy_count B i)) _ (eq-eqb _ _ e) w

  pub jump_yes : (x i : ℕ) → i < block_count B → live P B i ≡ true
      → is_word (move_place o P B R i (dummy_count B i)) (jump_table B i) x ≡ true → is_jump_word o P B R x ≡ true
  unfolding is_jump_word
  jump_yes x i h t w =
      row_yes (table_word o P B R x) (items P B) (block_count B) i (dummy_count B i) h (omega (arith, items_live P B i t))
      (table_yes x i (dummy_count B i) refl (rw (length_table B i (dummy_count B i) (omega arith)) w))

  table_parts : (x i k : ℕ) → table_word o P B R x i k ≡ true → (k ≡ dummy_count B i) × (is_word (move_place o P B R i k) (item_length B i k) x ≡ true)
  unfolding table_word
  table_parts x i k t = let r = and_parts (eqb k (dummy_count B i)) _ t in (eqb-true _ _ r.0, r.1)

  pub jump_hit : (x : ℕ) → is_jump_word o P B R x ≡ true
      → (i : ℕ) × (i < block_count B) × (live P B i ≡ true) × (is_word (move_place o P B R i (dummy_count B i)) (jump_table B i) x ≡ true)
  unfolding is_jump_word
  jump_hit x t = told _ _ (row_hit (table_word o P B R x) (items P B) (block_count B) t)
    where
      told : (i k : ℕ) → Hit (table_word o P B R x) (items P B) (block_count B) i k
          → (i : ℕ) × (i < block_count B) × (live P B i ≡ true) × (is_word (move_place o P B R i (dummy_count B i)) (jump_table B i) x ≡ true)
      told i k h =
          let r = table_parts x i k h.passes in
          let w = rw (r.0, length_table B i (dummy_count B i) (omega arith)) at r.1 in
          (i, h.row, item_live P B i k h.column, w)

  -- ---- the places of late offsets

  module _ (s : ℕ) where
    pub moved_is : (x i k : ℕ) → i < block_count B → k < items P B i → starts P B s x i k ≡ true
        → moved_place o P B R s x ≡ move_place o P B R i k + (x - move_source P B s i k)
    unfolding moved_place place_in_move
    moved_is x i k h g t =
        let r = moved_item_lem P B s x i k h g t in
        rw (r.0, r.1)

    -- it lies inside .rodata
    pub moved_inside : (x : ℕ) → end_at P B (line_count B) LATE_TARGET ≤ length R → late_step_fault o P B R ≡ block_count B → is_moved P B s x ≡ true
        → moved_place o P B R s x < length R
    moved_inside x start clear t =
        let h = moved_hit P B s x t in
        let i = moved_block P B s x in
        let k = moved_item P B s x in
        let a = start_in P B s x i k h.passes in
        omega (arith, moved_is x i k h.row h.column h.passes, a.0, a.1, place_inside o P B R start i k clear h.row h.column)

    -- two offsets that are moved do not go to one place
    pub moved_injective : (x y : ℕ) → is_moved P B s x ≡ true → is_moved P B s y ≡ true → moved_place o P B R s x ≡ moved_place o P B R s y → x ≡ y
    moved_injective x y t u e =
        let h = moved_hit P B s x t in
        let g = moved_hit P B s y u in
        apart (moved_block P B s x) (moved_item P B s x) (moved_block P B s y) (moved_item P B s y) h g
        (sym (moved_is x (moved_block P B s x) (moved_item P B s x) h.row h.column h.passes) ∙ e ∙ moved_is y (moved_block P B s y) (moved_item P B s y) g.row g.column g.passes)
      where
        apart : (i k j l : ℕ) → Hit (starts P B s x) (items P B) (block_count B) i k → Hit (starts P B s y) (items P B) (block_count B) j l
            → move_place o P B R i k + (x - move_source P B s i k) ≡ move_place o P B R j l + (y - move_source P B s j l) → x ≡ y
        apart i k j l h g e =
            let a = start_in P B s x i k h.passes in
            let b = start_in P B s y j l g.passes in
            let p = move_place o P B R i k + (x - move_source P B s i k) in
            let q = cover_once p i k j l h.column g.column (omega arith) (omega (arith, a.0, a.1)) (omega (arith, e)) (omega (arith, e, b.0, b.1)) in
            same i k j l q.0 q.1 e a.0 b.0
          where
            same : (i k j l : ℕ) → i ≡ j → k ≡ l → move_place o P B R i k + (x - move_source P B s i k) ≡ move_place o P B R j l + (y - move_source P B s j l)
                → move_source P B s i k ≤ x → move_source P B s j l ≤ y → x ≡ y
            same i k j l e f q a b =
                let m : move_place o P B R i k ≡ move_place o P B R j l = rw (e, f) in
                let n : move_source P B s i k ≡ move_source P B s j l = rw (e, f) in
                omega arith

    -- ---- the final .rodata

    module _ (W : List ℕ) where
      pub length_late : length (late_rodata o P B R s W) ≡ length R
      unfolding late_rodata
      length_late = select_all_length (late_byte o P B R s W) (length R)

      pub late_at_lem : (x : ℕ) → x < length R → get_or (late_rodata o P B R s W) x 0 ≡ late_byte o P B R s W x
      unfolding late_rodata
      late_at_lem x h = select_all_at (late_byte o P B R s W) x (length R) 0 h

      -- byte x, in each of its three cases
      pub covered_byte : (x i k : ℕ) → i < block_count B → k < items P B i → move_covers o P B R x i k ≡ true
          → late_byte o P B R s W x ≡ get_or W (move_source P B s i k + (x - move_place o P B R i k)) 0
      unfolding late_byte covered_by offset_in_move
      covered_byte x i k h g t =
          let a = cover_in x i k t in
          let y = row_yes (move_covers o P B R x) (items P B) (block_count B) i k h g t in
          let r = row_is (move_covers o P B R x) (items P B) (block_count B) i k h g t (λ j l hit.
          let b = cover_in x j l hit.passes in
          cover_once x j l i k hit.column g b.0 b.1 a.0 a.1) in
          rw (y, r.0, r.1)

      pub zeroed_byte : (x i k : ℕ) → i < block_count B → k < items P B i → zeroes o P B R x i k ≡ true → late_byte o P B R s W x ≡ 0
      unfolding late_byte
      zeroed_byte x i k h g t =
          let f = row_none (move_covers o P B R x) (items P B) (block_count B) (λ j l a b. zero_apart x j l i k b g t) in
          let y = row_yes (zeroes o P B R x) (items P B) (block_count B) i k h g t in
          rw (f, y)

      pub other_byte : (x : ℕ) → ((i k : ℕ) → i < block_count B → k < items P B i → move_covers o P B R x i k ≡ false)
          → ((i k : ℕ) → i < block_count B → k < items P B i → zeroes o P B R x i k ≡ false) → late_byte o P B R s W x ≡ get_or R x 0
      unfolding late_byte
      other_byte x a b =
          let f = row_none (move_covers o P B R x) (items P B) (block_count B) a in
          let g = row_none (zeroes o P B R x) (items P B) (block_count B) b in
          rw (f, g)

      -- inside a move A's byte
      pub late_in : (i k j : ℕ) → i < block_count B → k < items P B i → j < item_length B i k → move_place o P B R i k + j < length R
          → get_or (late_rodata o P B R s W) (move_place o P B R i k + j) 0 ≡ get_or W (move_source P B s i k + j) 0
      late_in i k j h g u v =
          let x = move_place o P B R i k + j in
          let e : move_source P B s i k + (x - move_place o P B R i k) ≡ move_source P B s i k + j = omega arith in
          late_at_lem x v ∙ covered_byte x i k h g (cover_yes x i k (omega arith) (omega arith)) ∙ ap (λ (y : ℕ). get_or W y 0) e

      -- in a zeroed word 0
      pub late_zeroed : (x i k : ℕ) → i < block_count B → k < items P B i → zeroes o P B R x i k ≡ true → x < length R
          → get_or (late_rodata o P B R s W) x 0 ≡ 0
      late_zeroed x i k h g t v = late_at_lem x v ∙ zeroed_byte x i k h g t

      -- else as it was
      pub late_out : (x : ℕ) → x < length R → ((i k : ℕ) → i < block_count B → k < items P B i → move_covers o P B R x i k ≡ false)
          → ((i k : ℕ) → i < block_count B → k < items P B i → zeroes o P B R x i k ≡ false) → get_or (late_rodata o P B R s W) x 0 ≡ get_or R x 0
      late_out x v a b = late_at_lem x v ∙ other_byte x a b

      -- ---- w bytes

      -- those that no move and no zeroed word has a byte of are as they were; an item without bytes has no say
      pub part_out : (x w : ℕ) → x + w ≤ length R
          → ((j : ℕ) → j < w → has_row (move_covers o P B R (x + j)) (items P B) (block_count B) ≡ false)
          → ((j : ℕ) → j < w → has_row (zeroes o P B R (x + j)) (items P B) (block_count B) ≡ false)
          → take w (drop x (late_rodata o P B R s W)) ≡ take w (drop x R)
      part_out x w h a b = part_same (late_rodata o P B R s W) R x x w (rw length_late h) h (λ j u.
          late_out (x + j) (omega arith)
          (λ i k g l. none_row (move_covers o P B R (x + j)) (items P B) (block_count B) i k (a j u) g l)
          (λ i k g l. none_row (zeroes o P B R (x + j)) (items P B) (block_count B) i k (b j u) g l))

      -- so are those in front of the end of the last .rodata block copied
      pub front_same : (x w : ℕ) → x + w ≤ length R → x + w ≤ end_at P B (line_count B) LATE_TARGET
          → take w (drop x (late_rodata o P B R s W)) ≡ take w (drop x R)
      front_same x w h g = part_same (late_rodata o P B R s W) R x x w (rw length_late h) h (λ j u.
          late_out (x + j) (omega arith) (λ i k a b. cover_past (x + j) i k (omega arith)) (λ i k a b. unzeroed j u i k))
        where
          unzeroed : (j : ℕ) → j < w → (i k : ℕ) → zeroes o P B R (x + j) i k ≡ false
          unzeroed j u i k = by-test (zeroes o P B R (x + j) i k)
              (λ t. absurd (omega (arith, (zero_in (x + j) i k t).1, last_past o P B R i k)))
              (λ f. f)

      -- those under one move are A's
      pub part_late : (i k x w : ℕ) → end_at P B (line_count B) LATE_TARGET ≤ length R → late_step_fault o P B R ≡ block_count B → i < block_count B → k < items P B i
          → move_source P B s i k ≤ x → x + w ≤ move_source P B s i k + item_length B i k → x + w ≤ length W
          → take w (drop (move_place o P B R i k + (x - move_source P B s i k)) (late_rodata o P B R s W)) ≡ take w (drop x W)
      part_late i k x w start clear h g a b c =
          let d = x - move_source P B s i k in
          let f = place_inside o P B R start i k clear h g in
          part_same (late_rodata o P B R s W) W (move_place o P B R i k + d) x w (rw length_late (omega arith)) c (λ j u.
          let e : move_place o P B R i k + d + j ≡ move_place o P B R i k + (d + j) = omega arith in
          let q : move_source P B s i k + (d + j) ≡ x + j = omega arith in
          ap (λ (y : ℕ). get_or (late_rodata o P B R s W) y 0) e
          ∙ late_in i k (d + j) h g (omega arith) (omega arith)
          ∙ ap (λ (y : ℕ). get_or W y 0) q)
