-- What the merge reads of the blocks of a block file B beside their spans (document 01, "The block file" and "Steps").
use Rattle.std.specs.Prelude.{ℕ, ◌+◌, ◌-◌, ◌*◌, Bool, cond, ◌&&◌, List, [], ◌∷◌}
use Rattle.base_lists.specs.Ranges.{sum}
use Rattle.base_scope.specs.Codes.{TEXT, line_of}
use Rattle.base_text.specs.Decimals.{decimal}
use Rattle.blocks_values.specs.Values.{is_digit}
use Rattle.blocks_lines.specs.Keys.{KEY_GLABEL, KEY_DUMMY, KEY_JTBL, is_key_line, value_at}
use Rattle.blocks_file.specs.Blocks.{group_size, line_behind, group_at, block_at, block_count}
use Rattle.blocks_places.specs.Places.{Place, taken, live}

-- 0 to 9, a to f
unfoldable pub hex_digit : ℕ → ℕ
hex_digit x = cond (is_digit x) (x - 48) (x - 87)

-- the number that hex digits write
unfoldable pub hex_from : ℕ → List ℕ → ℕ
hex_from n [] = n
hex_from n (x ∷ v) = hex_from (n * 16 + hex_digit x) v

abbrev pub hexadecimal : List ℕ → ℕ
hexadecimal v = hex_from 0 v

module _ (B : List ℕ) where
  -- how many dummies block i has: the lines of its group `dummy=`
  unfoldable pub dummy_count : ℕ → ℕ
  dummy_count i = group_size B KEY_DUMMY (group_at B (block_at B i) KEY_DUMMY)

  -- the line of dummy k of block i, and its word
  unfoldable pub dummy_line : ℕ → ℕ → ℕ
  dummy_line i k = line_behind B (group_at B (block_at B i) KEY_DUMMY) k

  unfoldable pub dummy_word : ℕ → ℕ → ℕ
  dummy_word i k = hexadecimal (value_at B KEY_DUMMY (dummy_line i k))

  -- the bytes of block i's jump table
  unfoldable pub jump_table : ℕ → ℕ
  jump_table i = decimal (value_at B KEY_JTBL (group_at B (block_at B i) KEY_JTBL))

module _ (P : List Place) (B : List ℕ) where
  -- block i gives its first glabel the size of its span in .text: also where a later label switches it off
  unfoldable pub sized : ℕ → Bool
  sized i = taken P (line_of i TEXT) && is_key_line B KEY_GLABEL (group_at B (block_at B i) KEY_GLABEL)

  -- the bytes of block i in A's late span: four for each dummy, and its jump table; none where the block is switched off
  unfoldable pub late_bytes : ℕ → ℕ
  late_bytes i = cond (live P B i) (4 * dummy_count B i + jump_table B i) 0

  -- the length of the late span: 4 times the dummies, and all jump tables
  unfoldable pub late_length : ℕ
  late_length = sum late_bytes (block_count B)
