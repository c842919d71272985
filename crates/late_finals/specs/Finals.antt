-- The bytes of C's section of a code c in the result, and which of them the merge writes (document 01, "Demand 3": "written: block copies, late moves, the zeroed word").
-- P are the places of the lines of the block file B, S are C's bytes of the section and T are A's, W are the bytes of A's .late_rodata, and s is where the late span starts
-- in them. .text, .data and .rodata differ in `is_late_target` alone.
use Rattle.std.specs.Prelude.{ℕ, Bool, ◌&&◌, ◌||◌, List}
use Rattle.base_lists.specs.Ranges.{pick_list}
use Rattle.base_lists.specs.Rows.{has_row}
use Rattle.base_fields.specs.declared.ByteOrder.{ByteOrder}
use Rattle.base_scope.specs.Codes.{is_late_target}
use Rattle.blocks_file.specs.Blocks.{block_count}
use Rattle.blocks_places.specs.Places.{Place}
use Rattle.blocks_spans.specs.Spans.{spans_of, is_covered}
use Rattle.blocks_spans.specs.Copied.{copied}
use Rattle.late_moves.specs.Moves.{items}
use Rattle.late_moves.specs.Moved.{move_covers, zeroes, late_rodata}

-- byte x of .rodata, which is R after block copying, is under a late move, or in a word that becomes zero
unfoldable pub is_late_written : ByteOrder → List Place → List ℕ → List ℕ → ℕ → Bool
is_late_written o P B R x = has_row (move_covers o P B R x) (items P B) (block_count B) || has_row (zeroes o P B R x) (items P B) (block_count B)

module _ (o : ByteOrder) (P : List Place) (B S T : List ℕ) where
  -- block copying, and in the late target the late step behind it
  unfoldable pub final_bytes : List ℕ → ℕ → ℕ → List ℕ
  final_bytes W s c = pick_list (is_late_target c) (late_rodata o P B (copied (spans_of P B c) S T) s W) (copied (spans_of P B c) S T)

  -- byte x of the section is under a span, or written by the late step
  unfoldable pub is_written : ℕ → ℕ → Bool
  is_written c x = is_covered (spans_of P B c) x || (is_late_target c && is_late_written o P B (copied (spans_of P B c) S T) x)
