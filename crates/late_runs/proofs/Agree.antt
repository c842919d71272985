-- The runs found over C's own .rodata are those of .rodata after block copying (crates/late_moves, proofs/Agree.antt), so they are the final .rodata byte by byte.
-- Assumes nothing.
use Prim.Native.Nat.{ℕ, ◌+◌, ◌≤◌, ◌<◌}
use mathlib.Core.Path.{◌≡◌, ap}
use mathlib.Core.List.{List}
use lib.ListN.{length, drop}
use lib.Dec.{ltb}
use Rattle.base_lists.proofs.Ranges.{first_ext}
use Rattle.base_fields.specs.declared.ByteOrder.{ByteOrder}
use Rattle.base_scope.specs.Codes.{LATE_TARGET}
use Rattle.blocks_file.specs.Blocks.{block_count}
use Rattle.late_lookups.specs.of_blocks_places.Lines.{line_count}
use Rattle.late_lookups.specs.of_blocks_places.Places.{Place, end_at}
use Rattle.late_lookups.specs.of_late_moves.Moves.{items, item_length, late_from, move_place}
use Rattle.late_lookups.specs.of_late_moves.Moved.{late_byte}
use Rattle.late_lookups.proofs.of_late_moves.Agree.{late_agree, place_agree, shifted_agree}
use Rattle.late_runs.specs.Runs.{run_block, run_item, gap_run, item_run, run_at}
use Rattle.late_runs.proofs.Runs.{IsRun, run_is}

module _ (o : ByteOrder) (P : List Place) (B R S : List ℕ) (long : length R ≡ length S)
    (agree : drop (end_at P B (line_count B) LATE_TARGET) R ≡ drop (end_at P B (line_count B) LATE_TARGET) S) where
  block_agree : (x : ℕ) → run_block o P B R x ≡ run_block o P B S x
  unfolding run_block
  block_agree x =
      first_ext (λ i. ltb x (late_from o P B R (i + 1))) (λ i. ltb x (late_from o P B S (i + 1))) 0 (block_count B)
      (λ i l u. ap (λ (n : ℕ). ltb x n) (late_agree o P B R S long agree (i + 1)))

  item_agree : (x i : ℕ) → run_item o P B R x i ≡ run_item o P B S x i
  unfolding run_item
  item_agree x i =
      first_ext (λ k. ltb x (move_place o P B R i k + item_length B i k)) (λ k. ltb x (move_place o P B S i k + item_length B i k)) 0 (items P B i)
      (λ k l u. ap (λ (n : ℕ). ltb x (n + item_length B i k)) (place_agree o P B R S long agree i k))

  pub run_agree : (s x : ℕ) → run_at o P B R s x ≡ run_at o P B S s x
  unfolding run_at item_run gap_run
  run_agree s x =
      let i = run_block o P B S x in
      let k = run_item o P B S x i in
      rw (block_agree x, item_agree x i, place_agree o P B R S long agree i k, shifted_agree o P B R S long agree i k, long)

  -- a run found over R, byte by byte
  pub run_copied : (s : ℕ) (W : List ℕ) (x : ℕ) → end_at P B (line_count B) LATE_TARGET ≤ x → x < length S
      → IsRun S W (late_byte o P B S s W) x (run_at o P B R s x)
  run_copied s W x h l = rw (run_agree s x) (run_is o P B S x s W h l)
