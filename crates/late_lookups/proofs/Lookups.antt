-- What the table of the late step says is what the definitions say: its rows are read back, so the block of an offset or of a place is the row whose range holds
-- it, and the item follows by arithmetic. Assumes nothing.
use Rattle.std.specs.Prelude.{None, Some}
use Prim.Native.Nat.{ℕ, ◌+◌, ◌-◌, ◌*◌, ◌/◌, ◌%◌, ◌≤◌, ◌<◌}
use mathlib.Core.Path.{◌≡◌, refl, sym, ap, ◌∙◌}
use mathlib.Core.Bool.{true, false, cond}
use mathlib.Core.List.{List, [], ◌∷◌}
use native.Mathlib.Omega.{arith}
use lib.ListN.{length, get_or}
use borrow.Author.Tests.{eq-eqb}
use Rattle.base_lists.specs.Windows.{Within}
use Rattle.base_lists.proofs.Ranges.{by-test, by-lt, by_last, both}
use Rattle.base_lists.proofs.Windows.{within_at, within_within, within_fits}
use Rattle.base_fields.specs.declared.ByteOrder.{ByteOrder}
use Rattle.base_fields.specs.declared.ByteOrder.TheVariants.{Big}
use Rattle.base_fields.specs.Numbers.{encoded}
use Rattle.base_fields.proofs.Numbers.{within_number}
use Rattle.base_scope.specs.Limits.{LATE_ROW, LATE_WORDS}
use Rattle.blocks_file.specs.Blocks.{block_count}
use Rattle.blocks_file.proofs.Blocks.{count_high}
use Rattle.late_walk.specs.of_blocks_places.Places.{Place, live}
use Rattle.late_walk.specs.of_blocks_items.Items.{dummy_count, jump_table}
use Rattle.late_walk.proofs.of_late_length.Late.{bytes_live, bytes_off}
use Rattle.late_walk.specs.of_late_moves.Moves.{items, item_length, late_source, move_source, late_from, last_place, move_place}
use Rattle.late_walk.specs.of_late_moves.Moved.{is_word, starts, is_moved, moved_block, moved_item, moved_place, is_jump_word}
use Rattle.late_walk.proofs.of_late_moves.Moves.{length_dummy, length_table, items_live, item_live, item_index, source_next, source_mono, source_end, late_mono, late_next, last_next, last_low, place_low}
use Rattle.late_walk.proofs.of_late_moves.Moved.{word_yes, word_in, word_fourth, jump_yes, jump_hit, start_in, moved_yes, moved_is, moved_hit}
use Rattle.late_walk.specs.Steps.{live_dummies}
use Rattle.late_walk.specs.Table.{dummy_index, late_row_bytes, late_row_of, row_table, block_words, word_table, Moves}
use Rattle.late_walk.proofs.Table.{length_rows, within_row, within_field, within_block, within_dummy, index_next, index_mono, length_words}
use Rattle.late_lookups.specs.Fields.{late_field, late_word, row_dummies, row_bytes, row_past, place_in_row, is_start, offset_at, is_table_word, jump_at, LateRows}
use Rattle.late_lookups.specs.Lookups.{moved_offset}
use Rattle.late_lookups.proofs.Fields.{place_word, place_rest, start_is, start_past, table_is, table_past, offset_none, offset_odd, offset_is, jump_none, jump_is, first_past_after, first_past_is}

-- ---- blocks

module _ (P : List Place) (B : List ℕ) (i : ℕ) where
  dummies_live : live P B i ≡ true → live_dummies P B i ≡ dummy_count B i
  unfolding live_dummies
  dummies_live t = rw t

  dummies_off : live P B i ≡ false → live_dummies P B i ≡ 0
  unfolding live_dummies
  dummies_off f = rw f

  -- a block's part of the late span is its dummies and its jump table
  table_bytes_lem : ℕ
  table_bytes_lem = cond (live P B i) (jump_table B i) 0

  table_live : live P B i ≡ true → table_bytes_lem ≡ jump_table B i
  unfolding table_bytes_lem
  table_live t = rw t

  table_off : live P B i ≡ false → table_bytes_lem ≡ 0
  unfolding table_bytes_lem
  table_off f = rw f

  part_is : (s : ℕ) → late_source P B s (i + 1) ≡ late_source P B s i + 4 * live_dummies P B i + table_bytes_lem
  unfolding table_bytes_lem
  part_is s = by-test (live P B i)
      (λ t. rw (t, dummies_live t) (omega (arith, source_next P B s i, bytes_live P B i t)))
      (λ f. rw (f, dummies_off f) (omega (arith, source_next P B s i, bytes_off P B i f)))

-- which ends at the last place behind the block
module _ (o : ByteOrder) (P : List Place) (B R : List ℕ) (i : ℕ) where
  table_end : live P B i ≡ true → late_from o P B R (i + 1) ≡ move_place o P B R i (dummy_count B i) + jump_table B i
  table_end t =
      late_next o P B R i
      ∙ ap (last_place o P B R i) (items_live P B i t)
      ∙ last_next o P B R i (dummy_count B i)
      ∙ ap (λ (n : ℕ). move_place o P B R i (dummy_count B i) + n) (length_table B i (dummy_count B i) (omega arith))

  table_fits : table_bytes_lem P B i ≤ late_from o P B R (i + 1)
  unfolding table_bytes_lem
  table_fits = by-test (live P B i)
      (λ t. rw t (omega (arith, table_end t)))
      (λ f. rw f (omega arith))

-- ---- a table in hand

module _ (o : ByteOrder) (P : List Place) (B R : List ℕ) (s : ℕ) (late : List ℕ) (m : Moves o P B R s late) where
  row_within : (i : ℕ) → i ≤ block_count B → Within (late_row_bytes (late_row_of o P B R s i)) (LATE_ROW * i) late
  row_within i h =
      within_at (late_row_bytes (late_row_of o P B R s i)) late (0 + LATE_ROW * i) (LATE_ROW * i) (omega arith)
      (within_within (late_row_bytes (late_row_of o P B R s i)) _ late 0 (LATE_ROW * i) (within_row o P B R s i (block_count B + 1) (omega arith)) m.rows)

  field_at : (f i : ℕ) → f < 3 → i ≤ block_count B → late_field late f i ≡ get_or (late_source P B s i ∷ dummy_index P B i ∷ late_from o P B R i ∷ []) f 0
  unfolding late_field late_row_of
  field_at f i g h =
      within_number Big 3 _ (LATE_ROW * i + 4 * f) late
      (within_within _ (late_row_bytes (late_row_of o P B R s i)) late (LATE_ROW * i) (4 * f) (within_field (late_row_of o P B R s i) f g) (row_within i h))

  pub field_source : (i : ℕ) → i ≤ block_count B → late_field late 0 i ≡ late_source P B s i
  field_source i h = field_at 0 i (omega arith) h

  pub field_index : (i : ℕ) → i ≤ block_count B → late_field late 1 i ≡ dummy_index P B i
  field_index i h = field_at 1 i (omega arith) h

  pub field_last : (i : ℕ) → i ≤ block_count B → late_field late 2 i ≡ late_from o P B R i
  field_last i h = field_at 2 i (omega arith) h

  -- what is read of a dummy is its place
  pub word_place : (i k : ℕ) → i < block_count B → k < live_dummies P B i → late_word late (dummy_index P B i + k) ≡ move_place o P B R i k
  unfolding late_word
  word_place i k h l =
      let e : LATE_WORDS + 3 * dummy_index P B i + 3 * k ≡ LATE_WORDS + 3 * (dummy_index P B i + k) = omega arith in
      within_number Big 2 (move_place o P B R i k) (LATE_WORDS + 3 * (dummy_index P B i + k)) late
      (within_at (encoded Big 3 (move_place o P B R i k)) late (LATE_WORDS + 3 * dummy_index P B i + 3 * k) (LATE_WORDS + 3 * (dummy_index P B i + k)) e
      (within_within (encoded Big 3 (move_place o P B R i k)) (block_words o P B R i) late (LATE_WORDS + 3 * dummy_index P B i) (3 * k)
      (within_dummy o P B R m.clear i h k l)
      (within_within (block_words o P B R i) (word_table o P B R (block_count B)) late LATE_WORDS (3 * dummy_index P B i)
      (within_block o P B R m.clear i h) m.words)))

  row_dummies_lem : (i : ℕ) → i < block_count B → row_dummies late i ≡ live_dummies P B i
  unfolding row_dummies
  row_dummies_lem i h = rw (field_index (i + 1) (omega arith), field_index i (omega arith), index_next P B i) (omega arith)

  row_bytes_lem : (i : ℕ) → i < block_count B → row_bytes late i ≡ table_bytes_lem P B i
  unfolding row_bytes
  row_bytes_lem i h =
      rw (field_source (i + 1) (omega arith), field_source i (omega arith), row_dummies_lem i h) (omega (arith, part_is P B i s))

  rows_long : LATE_ROW * block_count B + 12 ≤ length late
  rows_long =
      omega (arith, within_fits (row_table o P B R s (block_count B + 1)) late 0 m.rows, length_rows o P B R s (block_count B + 1))

  words_long : LATE_WORDS + 3 * late_field late 1 (block_count B) ≤ length late
  words_long =
      rw (field_index (block_count B) (omega arith)) (omega (
        arith,
        within_fits (word_table o P B R (block_count B)) late LATE_WORDS m.words,
        length_words o P B R (block_count B) m.clear (omega arith),
      ))

  rising : (f i : ℕ) → f < 3 → i < block_count B → late_field late f i ≤ late_field late f (i + 1)
  rising f i g h =
      by_last f 2 g
      (λ u. by_last f 1 u
      (λ v. by_last f 0 v
      (λ w. absurd (omega arith))
      (λ e. rw (e, field_source i (omega arith), field_source (i + 1) (omega arith)) (source_mono P B s i (i + 1) (omega arith))))
      (λ e. rw (e, field_index i (omega arith), field_index (i + 1) (omega arith)) (index_mono P B i (i + 1) (omega arith))))
      (λ e. rw (e, field_last i (omega arith), field_last (i + 1) (omega arith)) (late_mono o P B R i (i + 1) (omega arith)))

  words_there : (i : ℕ) → i < block_count B → LATE_WORDS + 3 * late_field late 1 (i + 1) ≤ length late
  words_there i h =
      rw (field_index (i + 1) (omega arith))
      (omega (arith, words_long, field_index (block_count B) (omega arith), index_mono P B (i + 1) (block_count B) (omega arith)))

  pub late_rows : LateRows late (block_count B)
  late_rows = record {
    few = count_high B;
    rows = λ i h. record {
      few = omega (arith, count_high B);
      long = omega (arith, rows_long);
      rises = λ f g. rising f i g h;
      words = words_there i h;
      parts = rw (field_source i (omega arith), field_source (i + 1) (omega arith), row_dummies_lem i h) (omega (arith, part_is P B i s));
      tables = rw (row_bytes_lem i h, field_last (i + 1) (omega arith)) (table_fits o P B R i);
    };
  }

  -- ---- the place of a late offset

  module _ (x i k : ℕ) (h : i < block_count B) (l : k < items P B i) (t : starts P B s x i k ≡ true) where
    source_is : move_source P B s i k ≡ late_source P B s i + 4 * k
    unfolding move_source
    source_is = refl

    start_fourth : (x - move_source P B s i k) % 4 ≡ 0
    unfolding starts
    start_fourth = word_fourth (move_source P B s i k) (item_length B i k) x t

    -- an offset that is a word of item k of block i: its row
    start_row : row_past late 0 (block_count B) x ≡ i
    start_row =
        let a = start_in P B s x i k t in
        let b : late_field late 0 i ≤ x = omega (arith, field_source i (omega arith), source_is, a.0) in
        let c : x < late_field late 0 (i + 1) = omega (arith, field_source (i + 1) (omega arith), source_end P B s i k l, a.1) in
        first_past_is late (block_count B) late_rows 0 (omega arith) x i h b c

    start_found : is_start late i x ≡ true
    start_found =
        let a = start_in P B s x i k t in
        let e = field_source i (omega arith) in
        let b : late_field late 0 i ≤ x = omega (arith, source_is, a.0) in
        let c : (x - late_field late 0 i) % 4 ≡ 0 = omega (arith, source_is, a.0, start_fourth) in
        sym (start_is late i x (late_field late 0 i) refl b) ∙ eq-eqb _ _ c

    -- and its place
    start_place : place_in_row late i x ≡ move_place o P B R i k + (x - move_source P B s i k)
    start_place =
        let y = item_live P B i k l in
        let a = start_in P B s x i k t in
        let e = field_source i (omega arith) in
        let n : row_dummies late i ≡ dummy_count B i = row_dummies_lem i h ∙ dummies_live P B i y in
        by-lt k (dummy_count B i)
        (λ u.
        let w = length_dummy B i k u in
        let c : x ≡ move_source P B s i k = omega (arith, a.0, a.1, start_fourth) in
        let q : k ≡ (x - late_field late 0 i) / 4 = omega (arith, source_is) in
        let v : k < live_dummies P B i = rw (dummies_live P B i y) u in
        let r : move_place o P B R i k ≡ late_word late (late_field late 1 i + k) =
        sym (word_place i k h v) ∙ ap (λ (z : ℕ). late_word late (z + k)) (sym (field_index i (omega arith))) in
        sym (place_word late i x k (move_place o P B R i k) q (omega arith) r) ∙ omega arith)
        (λ u.
        let q : k ≡ dummy_count B i = omega (arith, item_index P B i k l) in
        let w : item_length B i k ≡ jump_table B i = length_table B i k u in
        let z : row_dummies late i ≤ (x - late_field late 0 i) / 4 = omega (arith, source_is, a.0) in
        let c : late_from o P B R (i + 1) ≡ move_place o P B R i k + jump_table B i = rw q (table_end o P B R i y) in
        let d : late_source P B s (i + 1) ≡ late_source P B s i + 4 * dummy_count B i + jump_table B i =
        omega (arith, source_next P B s i, bytes_live P B i y) in
        sym (place_rest late i x ((x - late_field late 0 i) / 4) refl z)
        ∙ rw (field_source (i + 1) (omega arith), field_last (i + 1) (omega arith)) (omega (arith, source_is, a.0, a.1)))

  -- an offset at which the table says that a word starts is one of its block's words
  starts_yes : (x i k a : ℕ) → a ≡ late_source P B s i + 4 * k → a ≤ x → x < a + item_length B i k → (x - a) % 4 ≡ 0 → starts P B s x i k ≡ true
  unfolding starts move_source
  starts_yes x i k a e h l q = rw (← e) (word_yes a (item_length B i k) x h l q)

  start_item : (x i : ℕ) → i < block_count B → is_start late i x ≡ true → x < late_field late 0 (i + 1)
      → (k : ℕ) × (k < items P B i) × (starts P B s x i k ≡ true)
  start_item x i h t u =
      let r = start_past late i x t in
      let e = field_source i (omega arith) in
      let f = field_source (i + 1) (omega arith) in
      by-test (live P B i)
      (λ y.
      let n = items_live P B i y in
      let d : late_source P B s (i + 1) ≡ late_source P B s i + 4 * dummy_count B i + jump_table B i =
      omega (arith, source_next P B s i, bytes_live P B i y) in
      let k = (x - late_source P B s i) / 4 in
      by-lt k (dummy_count B i)
      (λ v. (k, omega arith, starts_yes x i k (late_source P B s i + 4 * k) refl (omega (arith, r.0, r.1)) (rw (length_dummy B i k v) (omega (arith, r.0, r.1))) (omega (arith, r.0, r.1))))
      (λ v.
      let q = dummy_count B i in
      (q, omega arith, starts_yes x i q (late_source P B s i + 4 * q) refl (omega (arith, r.0, r.1)) (rw (length_table B i q (omega arith)) (omega (arith, r.0, r.1))) (omega (arith, r.0, r.1)))))
      (λ z. absurd (omega (arith, r.0, source_next P B s i, bytes_off P B i z)))

  -- the table's answer is the definition's
  pub offset_moved : (x : ℕ) → offset_at late (block_count B) x ≡ moved_offset o P B R s x
  unfolding moved_offset
  offset_moved x = by-test (is_moved P B s x)
      (λ t.
      let g = moved_hit P B s x t in
      rw t (offset_hit (moved_block P B s x) (moved_item P B s x) g.row g.column g.passes))
      (λ f. rw f (offset_miss f))
    where
      offset_hit : (i k : ℕ) → i < block_count B → k < items P B i → starts P B s x i k ≡ true
          → offset_at late (block_count B) x ≡ Some (moved_place o P B R s x)
      offset_hit i k h l t =
          let p = start_place x i k h l t in
          sym (offset_is late (block_count B) x i (moved_place o P B R s x) (sym (start_row x i k h l t)) h (start_found x i k h l t)
          (moved_is o P B R s x i k h l t ∙ sym p))

      offset_miss : is_moved P B s x ≡ false → offset_at late (block_count B) x ≡ None
      offset_miss f = by-lt (row_past late 0 (block_count B) x) (block_count B)
          (λ h. by-test (is_start late (row_past late 0 (block_count B) x) x)
          (λ t.
          let r = start_item x (row_past late 0 (block_count B) x) h t (first_past_after late (block_count B) late_rows 0 (omega arith) x h) in
          both (moved_yes P B s x (row_past late 0 (block_count B) x) r.0 h r.1 r.2) f)
          (λ n. sym (offset_odd late (block_count B) x (row_past late 0 (block_count B) x) refl h n)))
          (λ h. sym (offset_none late (block_count B) x h))

  -- ---- jump-table words

  pub jump_moved : (x : ℕ) → jump_at late (block_count B) x ≡ is_jump_word o P B R x
  jump_moved x = by-test (is_jump_word o P B R x)
      (λ t. let g = jump_hit o P B R x t in jump_found g.0 g.1 g.2 g.3 ∙ sym t)
      (λ f. jump_miss f ∙ sym f)
    where
      jump_found : (i : ℕ) → i < block_count B → live P B i ≡ true → is_word (move_place o P B R i (dummy_count B i)) (jump_table B i) x ≡ true
          → jump_at late (block_count B) x ≡ true
      jump_found i h y w =
          let a = word_in (move_place o P B R i (dummy_count B i)) (jump_table B i) x w in
          let b = word_fourth (move_place o P B R i (dummy_count B i)) (jump_table B i) x w in
          let e = table_end o P B R i y in
          let n : row_bytes late i ≡ jump_table B i = row_bytes_lem i h ∙ table_live P B i y in
          let f = field_last (i + 1) (omega arith) in
          let c : late_field late 2 i ≤ x = omega (arith, field_last i (omega arith), last_low o P B R i (dummy_count B i), place_low o P B R i (dummy_count B i), a.0) in
          let d : x < late_field late 2 (i + 1) = omega (arith, a.1) in
          let g : row_past late 2 (block_count B) x ≡ i = first_past_is late (block_count B) late_rows 2 (omega arith) x i h c d in
          let u : late_field late 2 (i + 1) ≤ x + row_bytes late i = omega (arith, a.0) in
          let v : (x + row_bytes late i - late_field late 2 (i + 1)) % 4 ≡ 0 = omega (arith, a.0, b) in
          sym (jump_is late (block_count B) x i true (sym g) h
          (sym (sym (table_is late i x (row_bytes late i) (late_field late 2 (i + 1)) refl refl u) ∙ eq-eqb _ _ v)))

      jump_miss : is_jump_word o P B R x ≡ false → jump_at late (block_count B) x ≡ false
      jump_miss f = by-lt (row_past late 2 (block_count B) x) (block_count B)
          (λ h. by-test (is_table_word late (row_past late 2 (block_count B) x) x)
          (λ t. both (table_jump (row_past late 2 (block_count B) x) h t (first_past_after late (block_count B) late_rows 2 (omega arith) x h)) f)
          (λ n. sym (jump_is late (block_count B) x (row_past late 2 (block_count B) x) false refl h (sym n))))
          (λ h. sym (jump_none late (block_count B) x h))
        where
          table_jump : (i : ℕ) → i < block_count B → is_table_word late i x ≡ true → x < late_field late 2 (i + 1) → is_jump_word o P B R x ≡ true
          table_jump i h t u =
              let r = table_past late i x t in
              let f = field_last (i + 1) (omega arith) in
              by-test (live P B i)
              (λ y.
              let e = table_end o P B R i y in
              let n : row_bytes late i ≡ jump_table B i = row_bytes_lem i h ∙ table_live P B i y in
              jump_yes o P B R x i h y (word_yes (move_place o P B R i (dummy_count B i)) (jump_table B i) x (omega (arith, r.0)) (omega arith) (omega (arith, r.0, r.1))))
              (λ g.
              let n : row_bytes late i ≡ 0 = row_bytes_lem i h ∙ table_off P B i g in
              absurd (omega (arith, r.0)))
