-- Of the code, not of document 01: the final .rodata as runs. At a position at or past the end of the last .rodata block copied, the bytes of one kind that begin there.
-- Byte by byte a run is `late_byte` of the crate late_moves (proofs/Runs.antt, `run_is`).
use Rattle.std.specs.Prelude.{ℕ, ◌+◌, ◌-◌, Bool, true, false, List, length, get_or, leb, ltb}
use Rattle.base_lists.specs.Ranges.{first}
use Rattle.base_fields.specs.declared.ByteOrder.{ByteOrder}
use Rattle.blocks_file.specs.Blocks.{block_count}
use Rattle.late_lookups.specs.of_blocks_places.Places.{Place}
use Rattle.late_lookups.specs.of_late_moves.Moves.{items, item_length, move_source, late_from, move_place, is_shifted}
use Rattle.late_runs.specs.declared.Run.{Run}
use Rattle.late_runs.specs.declared.Run.TheVariants.{Kept, Late, Zeros}

abbrev pub pick_run : Bool → Run → Run → Run
pick_run true a b = a
pick_run false a b = b

-- how many bytes a run has, and byte j of one that begins at x: .rodata's own bytes R, A's late bytes W, or zeros
unfoldable pub run_length : Run → ℕ
run_length (Kept n) = n
run_length (Late a n) = n
run_length (Zeros n) = n

unfoldable pub run_byte : List ℕ → List ℕ → ℕ → Run → ℕ → ℕ
run_byte R W x (Kept n) j = get_or R (x + j) 0
run_byte R W x (Late a n) j = get_or W (a + j) 0
run_byte R W x (Zeros n) j = 0

module _ (o : ByteOrder) (P : List Place) (B R : List ℕ) where
  -- the first block whose last item ends past x, and its first item that does
  unfoldable pub run_block : ℕ → ℕ
  run_block x = first (λ i. ltb x (late_from o P B R (i + 1))) 0 (block_count B)

  unfoldable pub run_item : ℕ → ℕ → ℕ
  run_item x i = first (λ k. ltb x (move_place o P B R i k + item_length B i k)) 0 (items P B i)

  -- the bytes before item k of block i, from x on: kept up to its place, or up to the word before it where that becomes zero
  unfoldable pub gap_run : ℕ → ℕ → ℕ → Run
  gap_run x i k =
      pick_run (is_shifted o P B R i k)
      (pick_run (leb (move_place o P B R i k) (x + 4)) (Zeros (move_place o P B R i k - x)) (Kept (move_place o P B R i k - 4 - x)))
      (Kept (move_place o P B R i k - x))

  module _ (s x : ℕ) where
    -- item k of block i, which ends past x: its bytes from x on, or those before it
    unfoldable pub item_run : ℕ → ℕ → Run
    item_run i k =
        pick_run (leb (move_place o P B R i k) x)
        (Late (move_source P B s i k + (x - move_place o P B R i k)) (move_place o P B R i k + item_length B i k - x))
        (gap_run x i k)

    -- behind all items the rest is kept
    unfoldable pub run_at : Run
    run_at = pick_run (ltb (run_block x) (block_count B)) (item_run (run_block x) (run_item x (run_block x))) (Kept (length R - x))
