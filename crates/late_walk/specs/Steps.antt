-- Of the code, not of document 01: what the walk over the blocks makes of one block.
use Rattle.std.specs.Prelude.{ℕ, ◌+◌, ◌*◌, ◌≤◌, ◌<◌, Bool, true, false, cond, List, length, ltb, None, Some, Option}
use Rattle.base_fields.specs.declared.ByteOrder.{ByteOrder}
use Rattle.base_scope.specs.Limits.{FILE_LIMIT, DUMMY_LIMIT, PLACE_ROW, LATE_WORDS}
use Rattle.blocks_file.specs.Blocks.{block_count}
use Rattle.blocks_file.specs.Table.{Parsed}
use Rattle.late_blocks.specs.of_blocks_places.Lines.{line_count}
use Rattle.late_blocks.specs.of_blocks_places.Places.{Place, live}
use Rattle.late_blocks.specs.of_blocks_items.Items.{dummy_count, late_bytes}
use Rattle.late_blocks.specs.of_late_moves.Moves.{last_from, items}
use Rattle.late_blocks.specs.Items.{sound_items}
use Rattle.late_walk.specs.declared.LateRow.{LateRow}

abbrev pub pick_block_step : Bool → Option LateRow → Option LateRow → Option LateRow
pick_block_step true a b = a
pick_block_step false a b = b

module _ (P : List Place) (B : List ℕ) where
  -- how many dummies of block i take part in the late step
  unfoldable pub live_dummies : ℕ → ℕ
  live_dummies i = cond (live P B i) (dummy_count B i) 0

-- the row of block i + 1, from that of block i; or refusal 14
unfoldable pub block_step : ByteOrder → List Place → List ℕ → List ℕ → ℕ → LateRow → Option LateRow
block_step o P B R i row =
    pick_block_step (ltb (sound_items o B R i row.last (items P B i)) (items P B i))
    None
    (Some (record {
      source = row.source + late_bytes P B i;
      dummies = row.dummies + live_dummies P B i;
      last = last_from o B R i row.last (items P B i);
    }))

-- block i in hand, with room in the table for its dummies
pub record AtBlock (P : List Place) (B R table places late : List ℕ) (i : ℕ) (row : LateRow) : Type 0 where
  pub parsed : Parsed B table
  pub placed : PLACE_ROW * line_count B ≤ length places
  pub counted : i < block_count B
  pub small : length R ≤ FILE_LIMIT
  pub inside : row.last ≤ length R
  pub offset : row.source ≤ FILE_LIMIT
  pub few : row.dummies ≤ DUMMY_LIMIT
  pub room : LATE_WORDS + 3 * (row.dummies + live_dummies P B i) ≤ length late
