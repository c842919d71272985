-- The laws of the table of the late step: its rows have 12 bytes each and its places 3, rows and places are written beside each other, and each is read back
-- from a table in hand. Assumes nothing.
use Prim.Native.Nat.{ℕ, zero, suc, ◌+◌, ◌*◌, ◌≤◌, ◌<◌}
use mathlib.Core.Path.{◌≡◌, refl, ap, ◌∙◌}
use mathlib.Core.Bool.{true, false}
use mathlib.Core.List.{List, [], ◌∷◌, ◌++◌}
use native.Mathlib.Numerals.{add-one}
use native.Mathlib.Omega.{arith}
use lib.ListN.{length, get_or, length-append}
use Rattle.base_lists.specs.Ranges.{select}
use Rattle.base_lists.specs.Windows.{Within, spliced}
use Rattle.base_lists.proofs.Ranges.{by-test, first_high, first_none, sum_zero, sum_next, sum_mono, gather_zero, gather_yes, gather_all_length, select_all_at, select_all_length}
use Rattle.base_lists.proofs.Records.{length_flat, within_flat}
use Rattle.base_lists.proofs.Windows.{length_spliced, spliced_nil, spliced_then, spliced_comm, within_gather}
use Rattle.base_fields.specs.declared.ByteOrder.{ByteOrder}
use Rattle.base_fields.specs.declared.ByteOrder.TheVariants.{Big}
use Rattle.base_fields.specs.Numbers.{encoded}
use Rattle.base_fields.proofs.Numbers.{length_encoded}
use Rattle.base_scope.specs.Limits.{FILE_LIMIT, BLOCK_LIMIT, DUMMY_LIMIT, LATE_ROW, LATE_WORDS}
use Rattle.blocks_file.specs.Blocks.{block_count}
use Rattle.blocks_file.proofs.Blocks.{counted_inside}
use Rattle.late_blocks.specs.of_blocks_places.Places.{Place, live}
use Rattle.late_blocks.specs.of_blocks_items.Items.{dummy_count}
use Rattle.late_blocks.proofs.of_blocks_items.DummyLines.{dummies_few}
use Rattle.late_blocks.specs.of_late_moves.Moves.{items, late_from, last_place, move_place, is_move_fault, late_step_fault}
use Rattle.late_blocks.proofs.of_late_moves.Moves.{items_live, sound_item}
use Rattle.late_blocks.specs.Items.{place_from, fault_from, sound_items, place_words}
use Rattle.late_walk.specs.declared.LateRow.{LateRow}
use Rattle.late_walk.specs.Steps.{live_dummies}
use Rattle.late_walk.specs.Table.{dummy_index, late_row_bytes, late_row_of, row_table, block_words, word_table, filled}

-- ---- rows

pub length_row : (row : LateRow) → length (late_row_bytes row) ≡ LATE_ROW
unfolding late_row_bytes
length_row row = length_flat (encoded Big 4) 4 (length_encoded Big 4) (row.source ∷ row.dummies ∷ row.last ∷ [])

pub within_field : (row : LateRow) (k : ℕ) → k < 3 → Within (encoded Big 4 (get_or (row.source ∷ row.dummies ∷ row.last ∷ []) k 0)) (4 * k) (late_row_bytes row)
unfolding late_row_bytes
within_field row k h = within_flat (encoded Big 4) 4 (length_encoded Big 4) (row.source ∷ row.dummies ∷ row.last ∷ []) k 0 h

module _ (o : ByteOrder) (P : List Place) (B R : List ℕ) (s : ℕ) where
  -- the bytes of block i's row
  abbrev pub row_at : ℕ → List ℕ
  row_at i = late_row_bytes (late_row_of o P B R s i)

  pub length_rows : (n : ℕ) → length (row_table o P B R s n) ≡ LATE_ROW * n
  unfolding row_table
  length_rows n = gather_all_length row_at LATE_ROW (λ i. length_row (late_row_of o P B R s i)) n

  pub rows_zero : row_table o P B R s 0 ≡ []
  unfolding row_table
  rows_zero = gather_zero (λ i. true) row_at

  pub rows_next : (n : ℕ) → row_table o P B R s (n + 1) ≡ row_table o P B R s n ++ row_at n
  unfolding row_table
  rows_next n = gather_yes (λ i. true) row_at n refl

  pub within_row : (i n : ℕ) → i < n → Within (row_at i) (LATE_ROW * i) (row_table o P B R s n)
  unfolding row_table
  within_row i n h = within_gather (λ i. true) row_at i n (LATE_ROW * i) (length_rows i) h refl

-- ---- places

module _ (P : List Place) (B : List ℕ) where
  pub index_zero_lem : dummy_index P B 0 ≡ 0
  unfolding dummy_index
  index_zero_lem = sum_zero (live_dummies P B)

  pub index_next : (i : ℕ) → dummy_index P B (i + 1) ≡ dummy_index P B i + live_dummies P B i
  unfolding dummy_index
  index_next i = sum_next (live_dummies P B) i

  pub index_mono : (i j : ℕ) → i ≤ j → dummy_index P B i ≤ dummy_index P B j
  unfolding dummy_index
  index_mono i j h = sum_mono (live_dummies P B) i j h

  -- all dummies stand in the block file
  pub index_few : (i : ℕ) → i ≤ block_count B → length B ≤ FILE_LIMIT → dummy_index P B i ≤ DUMMY_LIMIT
  unfolding dummy_index live_dummies
  index_few i h l = omega (arith, dummies_few B (live P B) i, counted_inside B i h)

module _ (o : ByteOrder) (P : List Place) (B R : List ℕ) where
  pub words_zero : word_table o P B R 0 ≡ []
  unfolding word_table
  words_zero = gather_zero (λ i. true) (block_words o P B R)

  pub words_next : (n : ℕ) → word_table o P B R (n + 1) ≡ word_table o P B R n ++ block_words o P B R n
  unfolding word_table
  words_next n = gather_yes (λ i. true) (block_words o P B R) n refl

  -- how many dummies of a block are sound
  unfoldable pub sound_dummies : ℕ → ℕ
  sound_dummies i = sound_items o B R i (late_from o P B R i) (live_dummies P B i)

  words_few : (i : ℕ) → sound_dummies i ≤ live_dummies P B i
  unfolding sound_dummies sound_items
  words_few i = first_high (fault_from o B R i (late_from o P B R i)) 0 (live_dummies P B i) (omega arith)

  length_block : (i : ℕ) → length (block_words o P B R i) ≡ 3 * sound_dummies i
  unfolding block_words place_words sound_dummies
  length_block i =
      let n = sound_items o B R i (late_from o P B R i) (live_dummies P B i) in
      length_flat (encoded Big 3) 3 (length_encoded Big 3) (select (λ k. true) (place_from o B R i (late_from o P B R i)) n)
      ∙ ap (λ (m : ℕ). 3 * m) (select_all_length (place_from o B R i (late_from o P B R i)) n)

  pub block_room : (i : ℕ) → length (block_words o P B R i) ≤ 3 * live_dummies P B i
  block_room i = omega (arith, length_block i, words_few i)

  -- a block with no item at fault has a place for each dummy
  dummy_item : (i k : ℕ) → k < live_dummies P B i → k < items P B i
  unfolding live_dummies
  dummy_item i k h = by-test (live P B i)
      (λ t. let g : k < dummy_count B i = rw t at h in omega (arith, items_live P B i t))
      (λ f. let g : k < 0 = rw f at h in absurd (omega arith))

  pub block_full : (i : ℕ) → ((k : ℕ) → k < items P B i → is_move_fault o P B R i k ≡ false) → sound_dummies i ≡ live_dummies P B i
  unfolding sound_dummies sound_items fault_from is_move_fault last_place
  block_full i sound =
      first_none (fault_from o B R i (late_from o P B R i)) 0 (live_dummies P B i) (omega arith) (λ k l h. sound k (dummy_item i k h))

  pub words_full : (i : ℕ) → ((k : ℕ) → k < items P B i → is_move_fault o P B R i k ≡ false)
      → length (word_table o P B R i) ≡ 3 * dummy_index P B i → length (word_table o P B R (i + 1)) ≡ 3 * dummy_index P B (i + 1)
  words_full i sound e =
      rw (words_next i, index_next P B i) (length_joined (word_table o P B R i) (block_words o P B R i) (dummy_index P B i) (live_dummies P B i) e
      (length_block i ∙ ap (λ (n : ℕ). 3 * n) (block_full i sound)))
    where
      length_joined : (a b : List ℕ) (m n : ℕ) → length a ≡ 3 * m → length b ≡ 3 * n → length (a ++ b) ≡ 3 * (m + n)
      length_joined a b m n p q = rw (length-append, p, q) (omega arith)

  pub length_words : (n : ℕ) → late_step_fault o P B R ≡ block_count B → n ≤ block_count B → length (word_table o P B R n) ≡ 3 * dummy_index P B n
  length_words zero e h = rw (words_zero, index_zero_lem P B)
  length_words (suc n) e h =
      rw (← add-one n) (words_full n (λ k l. sound_item o P B R (block_count B) n k e (omega arith) (omega arith) l) (length_words n e (omega arith)))

  pub same_place : (i k : ℕ) → place_from o B R i (late_from o P B R i) k ≡ move_place o P B R i k
  unfolding place_from move_place last_place
  same_place i k = refl

  -- where nothing is at fault: the places of block i stand behind those of the blocks before it, and that of dummy k is the k-th of them
  module _ (e : late_step_fault o P B R ≡ block_count B) (i : ℕ) (h : i < block_count B) where
    pub within_block : Within (block_words o P B R i) (3 * dummy_index P B i) (word_table o P B R (block_count B))
    unfolding word_table
    within_block = within_gather (λ j. true) (block_words o P B R) i (block_count B) (3 * dummy_index P B i) (length_words i e (omega arith)) h refl

    all_sound : sound_items o B R i (late_from o P B R i) (live_dummies P B i) ≡ live_dummies P B i
    unfolding sound_dummies
    all_sound = block_full i (λ k l. sound_item o P B R (block_count B) i k e h h l)

    pub within_dummy : (k : ℕ) → k < live_dummies P B i → Within (encoded Big 3 (move_place o P B R i k)) (3 * k) (block_words o P B R i)
    unfolding block_words place_words
    within_dummy k l =
        rw (all_sound, ← picked k l)
        (within_flat (encoded Big 3) 3 (length_encoded Big 3) (select (λ j. true) (place_from o B R i (late_from o P B R i)) (live_dummies P B i)) k 0
        (rw (select_all_length (place_from o B R i (late_from o P B R i)) (live_dummies P B i)) l))
      where
        picked : (k : ℕ) → k < live_dummies P B i
            → get_or (select (λ j. true) (place_from o B R i (late_from o P B R i)) (live_dummies P B i)) k 0 ≡ move_place o P B R i k
        picked k l =
            select_all_at (place_from o B R i (late_from o P B R i)) k (live_dummies P B i) 0 l ∙ same_place i k

-- ---- a table filled so far

module _ (o : ByteOrder) (P : List Place) (B R : List ℕ) (s : ℕ) (before : List ℕ) where
  pub filled_none : filled o P B R s before 0 0 ≡ before
  unfolding filled
  filled_none = rw (rows_zero o P B R s, words_zero o P B R, spliced_nil before 0) (spliced_nil before LATE_WORDS)

  -- a row more
  pub filled_row : (i : ℕ) → i ≤ BLOCK_LIMIT → LATE_WORDS + length (word_table o P B R i) ≤ length before
      → spliced (filled o P B R s before i i) (LATE_ROW * i) (row_at o P B R s i) ≡ filled o P B R s before (i + 1) i
  unfolding filled
  filled_row i h room =
      let t = row_table o P B R s i in
      let n = length_rows o P B R s i in
      let r = length_row (late_row_of o P B R s i) in
      let g : 0 + length t ≤ length before = omega (arith, n) in
      let q : length (spliced before 0 t) ≡ length before = length_spliced before 0 t g in
      spliced_comm (spliced before 0 t) (LATE_ROW * i) (row_at o P B R s i) LATE_WORDS (word_table o P B R i) (omega (arith, r)) (rw q room)
      ∙ ap (λ (x : List ℕ). spliced x LATE_WORDS (word_table o P B R i))
      (spliced_then before 0 t (row_at o P B R s i) (LATE_ROW * i) (omega (arith, n)) (omega (arith, r)) ∙ rw (← rows_next o P B R s i))

  -- the places of a block more
  pub filled_words : (i n at : ℕ) → n ≤ BLOCK_LIMIT + 1 → at ≡ LATE_WORDS + length (word_table o P B R i) → at + length (block_words o P B R i) ≤ length before
      → spliced (filled o P B R s before n i) at (block_words o P B R i) ≡ filled o P B R s before n (i + 1)
  unfolding filled
  filled_words i n at h e room =
      let t = row_table o P B R s n in
      let g : 0 + length t ≤ length before = omega (arith, length_rows o P B R s n) in
      let q : length (spliced before 0 t) ≡ length before = length_spliced before 0 t g in
      spliced_then (spliced before 0 t) LATE_WORDS (word_table o P B R i) (block_words o P B R i) at e (rw q room) ∙ rw (← words_next o P B R i)

  pub length_filled : (n m : ℕ) → n ≤ BLOCK_LIMIT + 1 → LATE_WORDS + length (word_table o P B R m) ≤ length before → length (filled o P B R s before n m) ≡ length before
  unfolding filled
  length_filled n m h room =
      let t = row_table o P B R s n in
      let g : 0 + length t ≤ length before = omega (arith, length_rows o P B R s n) in
      let q : length (spliced before 0 t) ≡ length before = length_spliced before 0 t g in
      length_spliced (spliced before 0 t) LATE_WORDS (word_table o P B R m) (rw q room) ∙ q
