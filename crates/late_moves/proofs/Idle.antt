-- Where there is no late step (no dummy and no jump table in a block that stays on) the definitions agree: no late offset is moved, no word is a jump word, and the
-- final .rodata is what it was. So what is said of a late step needs no case apart. Assumes nothing.
use Prim.Native.Nat.{ℕ, ◌<◌}
use mathlib.Core.Path.{◌≡◌, ◌∙◌}
use mathlib.Core.Bool.{false}
use mathlib.Core.List.{List}
use native.Mathlib.Omega.{arith}
use lib.Seq.{ext_get_or}
use Rattle.base_lists.proofs.Ranges.{by-test, by-lt}
use Rattle.base_fields.specs.declared.ByteOrder.{ByteOrder}
use Rattle.late_length.specs.of_blocks_file.Blocks.{block_count}
use Rattle.late_length.specs.of_blocks_places.Places.{Place}
use Rattle.late_length.specs.of_blocks_items.Items.{dummy_count, jump_table}
use Rattle.late_length.specs.Late.{has_late_step}
use Rattle.late_length.proofs.Late.{bytes_live, step_none}
use Rattle.late_moves.specs.Moves.{item_length, items, move_place, is_shifted}
use Rattle.late_moves.specs.Moved.{is_jump_word, move_covers, zeroes, starts, is_moved, late_rodata}
use Rattle.late_moves.proofs.Moves.{dummy_no, length_table, item_live}
use Rattle.late_moves.proofs.Moved.{cover_low, cover_high, word_in, jump_hit, start_in, moved_no, length_late, late_out}

module _ (P : List Place) (B : List ℕ) (idle : has_late_step P B ≡ false) where
  idle_dummies : (i k : ℕ) → i < block_count B → k < items P B i → dummy_count B i ≡ 0
  idle_dummies i k h g = omega (arith, bytes_live P B i (item_live P B i k g), step_none P B idle i h)

  -- the only item of a block is an empty jump table
  idle_length : (i k : ℕ) → i < block_count B → k < items P B i → item_length B i k ≡ 0
  idle_length i k h g =
      let d = idle_dummies i k h g in
      length_table B i k (omega arith) ∙ omega (arith, bytes_live P B i (item_live P B i k g), step_none P B idle i h)

  pub idle_moved : (s x : ℕ) → is_moved P B s x ≡ false
  idle_moved s x = moved_no P B s x (λ i k h g. by-test (starts P B s x i k)
      (λ t. absurd (omega (arith, (start_in P B s x i k t).0, (start_in P B s x i k t).1, idle_length i k h g)))
      (λ f. f))

  module _ (o : ByteOrder) (R : List ℕ) where
    idle_covers : (x i k : ℕ) → i < block_count B → k < items P B i → move_covers o P B R x i k ≡ false
    idle_covers x i k h g = by-lt x (move_place o P B R i k)
        (λ l. cover_low o P B R x i k l)
        (λ l. cover_high o P B R x i k (omega (arith, idle_length i k h g)))

    idle_shifted : (i k : ℕ) → i < block_count B → k < items P B i → is_shifted o P B R i k ≡ false
    unfolding is_shifted
    idle_shifted i k h g =
        let d = idle_dummies i k h g in
        rw (dummy_no B i k (omega arith))

    idle_zeroes : (x i k : ℕ) → i < block_count B → k < items P B i → zeroes o P B R x i k ≡ false
    unfolding zeroes
    idle_zeroes x i k h g = rw (idle_shifted i k h g)

    pub idle_jump : (x : ℕ) → is_jump_word o P B R x ≡ false
    idle_jump x = by-test (is_jump_word o P B R x)
        (λ t.
        let r = jump_hit o P B R x t in
        let w = word_in (move_place o P B R r.0 (dummy_count B r.0)) (jump_table B r.0) x r.3 in
        absurd (omega (arith, w.0, w.1, bytes_live P B r.0 r.2, step_none P B idle r.0 r.1)))
        (λ f. f)

    pub idle_rodata : (s : ℕ) (W : List ℕ) → late_rodata o P B R s W ≡ R
    idle_rodata s W = ext_get_or 0 (late_rodata o P B R s W) R (length_late o P B R s W) (λ x h.
        late_out o P B R s W x (omega (arith, length_late o P B R s W)) (λ i k a b. idle_covers x i k a b) (λ i k a b. idle_zeroes x i k a b))
