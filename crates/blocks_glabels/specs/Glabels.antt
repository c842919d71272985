-- The glabels of the blocks of a block file B (document 01, "Symbols": "A's glabels become type 2, with size if first in a .text block (last block wins)"; "Steps": a label
-- absent from C switches off the rest of its block, glabels go, "but spans and a glabel's size taken before it stay"). P are the places of the lines of B.
use Rattle.std.specs.Prelude.{ℕ, ◌-◌, Bool, cond, ◌&&◌, List, eqb}
use Rattle.base_lists.specs.Ranges.{past_last}
use Rattle.base_lists.specs.Rows.{has_row}
use Rattle.base_lists.specs.Strings.{same}
use Rattle.base_scope.specs.Codes.{TEXT, line_of}
use Rattle.blocks_lines.specs.Keys.{KEY_GLABEL, value_at}
use Rattle.blocks_file.specs.Blocks.{group_size, line_behind, group_at, block_at, block_count}
use Rattle.blocks_places.specs.Lines.{span_size}
use Rattle.blocks_places.specs.Places.{Place, live}
use Rattle.blocks_items.specs.Items.{sized}

module _ (B : List ℕ) where
  -- how many glabels block i has: the lines of its group `glabel=`
  unfoldable pub glabel_count : ℕ → ℕ
  glabel_count i = group_size B KEY_GLABEL (group_at B (block_at B i) KEY_GLABEL)

  -- glabel k of block i
  unfoldable pub glabel : ℕ → ℕ → List ℕ
  glabel i k = value_at B KEY_GLABEL (line_behind B (group_at B (block_at B i) KEY_GLABEL) k)

module _ (P : List Place) (B : List ℕ) (name : List ℕ) where
  -- a name is a glabel where a block that stays on has it
  unfoldable pub is_glabel_at : ℕ → ℕ → Bool
  is_glabel_at i k = live P B i && same (glabel B i k) name

  unfoldable pub is_glabel : Bool
  is_glabel = has_row is_glabel_at (glabel_count B) (block_count B)

  -- block i gives it a size: it is the first glabel of a block with a span in .text, switched off or not
  unfoldable pub gives_size : ℕ → Bool
  gives_size i = sized P B i && same (glabel B i 0) name

  -- one past the last block that does; 0 where none does
  unfoldable pub past_sized : ℕ
  past_sized = past_last gives_size (block_count B)

  -- the size that it has then: that of the span; `own`, its own, where no block gives one
  unfoldable pub glabel_size : ℕ → ℕ
  glabel_size own = cond (eqb past_sized 0) own (span_size B (line_of (past_sized - 1) TEXT))
