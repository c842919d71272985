-- What the late step comes to (document 01, "Late words": "a word's offset there moves to its place", "its words start at every fourth byte", "its old word becomes
-- zero"): the place of a late offset, the words of jump tables, and the final bytes of .rodata. s is where A's late span starts, W are the bytes of A's .late_rodata.
use Rattle.std.specs.Prelude.{ℕ, ◌+◌, ◌-◌, ◌%◌, Bool, true, cond, ◌&&◌, List, length, get_or, eqb, leb, ltb}
use Rattle.base_lists.specs.Ranges.{select}
use Rattle.base_lists.specs.Rows.{row_in, column_in, has_row}
use Rattle.base_fields.specs.declared.ByteOrder.{ByteOrder}
use Rattle.late_length.specs.of_blocks_file.Blocks.{block_count}
use Rattle.late_length.specs.of_blocks_places.Places.{Place}
use Rattle.late_length.specs.of_blocks_items.Items.{dummy_count}
use Rattle.late_moves.specs.Moves.{items, item_length, move_source, move_place, is_shifted}

-- x is one of the n bytes from a on
unfoldable pub is_in : ℕ → ℕ → ℕ → Bool
is_in a n x = leb a x && ltb x (a + n)

-- x is one of them, and a word starts there: at every fourth byte, a last word that is cut short included
unfoldable pub is_word : ℕ → ℕ → ℕ → Bool
is_word a n x = is_in a n x && eqb ((x - a) % 4) 0

module _ (P : List Place) (B : List ℕ) (s : ℕ) where
  -- a word of item k of block i starts at late offset x
  unfoldable pub starts : ℕ → ℕ → ℕ → Bool
  starts x i k = is_word (move_source P B s i k) (item_length B i k) x

  -- a word's offset moves to its place; other offsets are not moved
  unfoldable pub is_moved : ℕ → Bool
  is_moved x = has_row (starts x) (items P B) (block_count B)

  -- the block and the item of that word
  unfoldable pub moved_block : ℕ → ℕ
  moved_block x = row_in (starts x) (items P B) (block_count B)

  unfoldable pub moved_item : ℕ → ℕ
  moved_item x = column_in (starts x) (items P B) (block_count B)

module _ (o : ByteOrder) (P : List Place) (B R : List ℕ) where
  -- item k of block i is a jump table, and has a word at x of .rodata
  unfoldable pub table_word : ℕ → ℕ → ℕ → Bool
  table_word x i k = eqb k (dummy_count B i) && is_word (move_place o P B R i k) (item_length B i k) x

  unfoldable pub is_jump_word : ℕ → Bool
  is_jump_word x = has_row (table_word x) (items P B) (block_count B)

  -- item k of block i is moved over byte x of .rodata
  unfoldable pub move_covers : ℕ → ℕ → ℕ → Bool
  move_covers x i k = is_in (move_place o P B R i k) (item_length B i k) x

  -- byte x lies in the old word of item k of block i, a dummy that moved on by 4
  unfoldable pub zeroes : ℕ → ℕ → ℕ → Bool
  zeroes x i k = is_shifted o P B R i k && is_in (move_place o P B R i k - 4) 4 x

  module _ (s : ℕ) where
    -- offset x of the late span, at item k of block i: its place
    unfoldable pub place_in_move : ℕ → ℕ → ℕ → ℕ
    place_in_move x i k = move_place o P B R i k + (x - move_source P B s i k)

    unfoldable pub moved_place : ℕ → ℕ
    moved_place x = place_in_move x (moved_block P B s x) (moved_item P B s x)

    -- byte x of .rodata, at item k of block i: its offset in A's late span
    unfoldable pub offset_in_move : ℕ → ℕ → ℕ → ℕ
    offset_in_move x i k = move_source P B s i k + (x - move_place o P B R i k)

    unfoldable pub covered_by : ℕ → ℕ
    covered_by x = offset_in_move x (row_in (move_covers x) (items P B) (block_count B)) (column_in (move_covers x) (items P B) (block_count B))

    -- byte x of the final .rodata: inside a move A's, in a zeroed word 0, else as it was
    unfoldable pub late_byte : List ℕ → ℕ → ℕ
    late_byte W x =
        cond (has_row (move_covers x) (items P B) (block_count B))
        (get_or W (covered_by x) 0)
        (cond (has_row (zeroes x) (items P B) (block_count B)) 0 (get_or R x 0))

    unfoldable pub late_rodata : List ℕ → List ℕ
    late_rodata W = select (λ x. true) (late_byte W) (length R)
