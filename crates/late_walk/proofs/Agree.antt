-- The walk over C's own .rodata is the walk over .rodata after block copying: both are equal from the end of the last .rodata block copied on
-- (crates/late_moves, proofs/Agree.antt), so the answer and the table are the same. Assumes nothing.
use Rattle.std.specs.Prelude.{Option}
use Prim.Native.Nat.{ℕ}
use mathlib.Core.Path.{◌≡◌, refl, sym, ap, ◌∙◌}
use mathlib.Core.Bool.{true}
use mathlib.Core.List.{List}
use lib.ListN.{length, drop}
use Rattle.base_lists.specs.Records.{flat}
use Rattle.base_lists.proofs.Ranges.{first_ext, select_same, gather_same}
use Rattle.base_fields.specs.declared.ByteOrder.{ByteOrder}
use Rattle.base_fields.specs.declared.ByteOrder.TheVariants.{Big}
use Rattle.base_fields.specs.Numbers.{encoded}
use Rattle.base_scope.specs.Codes.{LATE_TARGET}
use Rattle.late_blocks.specs.of_blocks_places.Lines.{line_count}
use Rattle.late_blocks.specs.of_blocks_places.Places.{Place, end_at}
use Rattle.late_blocks.specs.of_late_moves.Moves.{late_from}
use Rattle.late_blocks.proofs.of_late_moves.Agree.{late_agree, place_agree, faulty_agree, late_fault_agree}
use Rattle.late_blocks.specs.Items.{place_from, fault_from, sound_items, place_words}
use Rattle.late_walk.specs.Steps.{live_dummies}
use Rattle.late_walk.specs.Table.{late_row_bytes, late_row_of, row_table, block_words, word_table, filled, Walk, Moves}
use Rattle.late_walk.proofs.Table.{same_place}
use Rattle.late_walk.proofs.Walk.{same_fault}

module _ (o : ByteOrder) (P : List Place) (B R S : List ℕ) (long : length R ≡ length S)
    (agree : drop (end_at P B (line_count B) LATE_TARGET) R ≡ drop (end_at P B (line_count B) LATE_TARGET) S) where
  row_agree : (s i : ℕ) → late_row_bytes (late_row_of o P B R s i) ≡ late_row_bytes (late_row_of o P B S s i)
  unfolding late_row_of
  row_agree s i = rw (late_agree o P B R S long agree i)

  rows_agree : (s n : ℕ) → row_table o P B R s n ≡ row_table o P B S s n
  unfolding row_table
  rows_agree s n =
      gather_same (λ i. true) (λ i. true) (λ i. late_row_bytes (late_row_of o P B R s i)) (λ i. late_row_bytes (late_row_of o P B S s i)) n (λ i h. refl) (λ i h t. row_agree s i)

  place_same : (i k : ℕ) → place_from o B R i (late_from o P B R i) k ≡ place_from o B S i (late_from o P B S i) k
  place_same i k = same_place o P B R i k ∙ place_agree o P B R S long agree i k ∙ sym (same_place o P B S i k)

  fault_same : (i k : ℕ) → fault_from o B R i (late_from o P B R i) k ≡ fault_from o B S i (late_from o P B S i) k
  fault_same i k = same_fault o P B R i k ∙ faulty_agree o P B R S long agree i k ∙ sym (same_fault o P B S i k)

  sound_same : (i n : ℕ) → sound_items o B R i (late_from o P B R i) n ≡ sound_items o B S i (late_from o P B S i) n
  unfolding sound_items
  sound_same i n = first_ext (fault_from o B R i (late_from o P B R i)) (fault_from o B S i (late_from o P B S i)) 0 n (λ k l u. fault_same i k)

  block_agree : (i : ℕ) → block_words o P B R i ≡ block_words o P B S i
  unfolding block_words place_words
  block_agree i =
      let n = sound_items o B S i (late_from o P B S i) (live_dummies P B i) in
      rw (sound_same i (live_dummies P B i)) (ap (flat (encoded Big 3))
      (select_same (λ k. true) (λ k. true) (place_from o B R i (late_from o P B R i)) (place_from o B S i (late_from o P B S i)) n (λ k h. refl) (λ k h t. place_same i k)))

  words_agree : (n : ℕ) → word_table o P B R n ≡ word_table o P B S n
  unfolding word_table
  words_agree n = gather_same (λ i. true) (λ i. true) (block_words o P B R) (block_words o P B S) n (λ i h. refl) (λ i h t. block_agree i)

  filled_agree : (s : ℕ) (before : List ℕ) (n m : ℕ) → filled o P B R s before n m ≡ filled o P B S s before n m
  unfolding filled
  filled_agree s before n m = rw (rows_agree s n, words_agree m)

  -- what the walk over R answers and leaves is what it says of S
  pub walk_agree : (s : ℕ) (r : Option ℕ) (before after : List ℕ) → Walk o P B R s r before after → Walk o P B S s r before after
  walk_agree s r before after w = record {
    answer = rw (← late_fault_agree o P B R S long agree) w.answer;
    table = rw (← late_fault_agree o P B R S long agree) (w.table ∙ filled_agree s before _ _);
  }

  pub moves_agree : (s : ℕ) (late : List ℕ) → Moves o P B R s late → Moves o P B S s late
  moves_agree s late m = record {
    clear = sym (late_fault_agree o P B R S long agree) ∙ m.clear;
    rows = rw (← rows_agree s _) m.rows;
    words = rw (← words_agree _) m.words;
  }
