-- The late step (document 01, "Late words"; refusal 14). P are the places of the lines of the block file B, R is .rodata after block copying and before late moves. A
-- block that is not switched off has one item for each of its dummies, in order, and one more for its jump table, which may be empty; item k of block i is a move of
-- bytes of A's late span.
use Rattle.std.specs.Prelude.{ℕ, zero, suc, ◌+◌, ◌*◌, Bool, cond, ◌&&◌, ◌||◌, List, length, eqb, ltb}
use Rattle.base_lists.specs.Ranges.{sum}
use Rattle.base_lists.specs.Rows.{row_in}
use Rattle.base_fields.specs.declared.ByteOrder.{ByteOrder}
use Rattle.base_scope.specs.Codes.{LATE_TARGET}
use Rattle.late_length.specs.of_blocks_file.Blocks.{block_count}
use Rattle.late_length.specs.of_blocks_places.Lines.{line_count}
use Rattle.late_length.specs.of_blocks_places.Places.{Place, live, end_at}
use Rattle.late_length.specs.of_blocks_items.Items.{dummy_count, dummy_word, jump_table, late_bytes}
use Rattle.late_dummies.specs.Dummies.{shifts, placed, is_lost}

module _ (B : List ℕ) where
  unfoldable pub is_dummy : ℕ → ℕ → Bool
  is_dummy i k = ltb k (dummy_count B i)

  -- the first of two or more dummies
  unfoldable pub first_of_many : ℕ → ℕ → Bool
  first_of_many i k = eqb k 0 && ltb 1 (dummy_count B i)

  unfoldable pub item_length : ℕ → ℕ → ℕ
  item_length i k = cond (is_dummy i k) 4 (jump_table B i)

module _ (o : ByteOrder) (B R : List ℕ) where
  -- the place of item k of block i, where `last` is the last place before it: a jump table follows its dummies
  unfoldable pub item_place : ℕ → ℕ → ℕ → ℕ
  item_place i last k = cond (is_dummy B i k) (placed o R (first_of_many B i k) last (dummy_word B i k)) last

  -- refusal 14: a dummy as in `is_lost`; a jump table past the end, or without a dummy
  unfoldable pub item_fault : ℕ → ℕ → ℕ → Bool
  item_fault i last k =
      cond (is_dummy B i k)
      (is_lost o R (first_of_many B i k) last (dummy_word B i k))
      (ltb 0 (jump_table B i) && (eqb (dummy_count B i) 0 || ltb (length R) (last + jump_table B i)))

  -- the last place before item k of block i: the end of the item before it, where `last` is the last place before the block
  unfoldable pub last_from : ℕ → ℕ → ℕ → ℕ
  last_from i last zero = last
  last_from i last (suc k) = item_place i (last_from i last k) k + item_length B i k

module _ (P : List Place) (B : List ℕ) where
  -- a block that is switched off has no part in the late step
  unfoldable pub items : ℕ → ℕ
  items i = cond (live P B i) (dummy_count B i + 1) 0

  -- late words and tables fill A's late span, which starts at s, in block order: where block i's part starts, and its item k
  unfoldable pub late_source : ℕ → ℕ → ℕ
  late_source s i = s + sum (late_bytes P B) i

  unfoldable pub move_source : ℕ → ℕ → ℕ → ℕ
  move_source s i k = late_source s i + 4 * k

module _ (o : ByteOrder) (P : List Place) (B R : List ℕ) where
  -- the last place before block i; before the first one it is the end of the last .rodata block copied, 0 if none
  unfoldable pub late_from : ℕ → ℕ
  late_from zero = end_at P B (line_count B) LATE_TARGET
  late_from (suc i) = last_from o B R i (late_from i) (items P B i)

  -- the last place before item k of block i, where its search begins
  unfoldable pub last_place : ℕ → ℕ → ℕ
  last_place i k = last_from o B R i (late_from i) k

  unfoldable pub move_place : ℕ → ℕ → ℕ
  move_place i k = item_place o B R i (last_place i k) k

  unfoldable pub is_move_fault : ℕ → ℕ → Bool
  is_move_fault i k = item_fault o B R i (last_place i k) k

  -- refusal 14: the first block with an item at fault; all blocks where there is none
  unfoldable pub late_step_fault : ℕ
  late_step_fault = row_in is_move_fault (items P B) (block_count B)

  -- item k of block i moves on by 4: the word before its place becomes zero
  unfoldable pub is_shifted : ℕ → ℕ → Bool
  is_shifted i k = is_dummy B i k && shifts o R (first_of_many B i k) (last_place i k) (dummy_word B i k)
