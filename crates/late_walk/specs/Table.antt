-- Of the code, not of document 01: the table of the late step. A row for each block and one behind the last: the late offset, the number of dummies and the last place
-- before it; then the places of all dummies, three bytes each. Every other place follows from these (crates/late_lookups).
use Rattle.std.specs.Prelude.{ℕ, ◌+◌, min, ◌*◌, ◌≤◌, true, List, [], ◌∷◌, ◌≡◌, length, Option}
use Rattle.base_lists.specs.Ranges.{sum, gather}
use Rattle.base_lists.specs.Records.{flat}
use Rattle.base_lists.specs.Windows.{Within, spliced}
use Rattle.base_fields.specs.declared.ByteOrder.{ByteOrder}
use Rattle.base_fields.specs.declared.ByteOrder.TheVariants.{Big}
use Rattle.base_fields.specs.Numbers.{encoded}
use Rattle.base_scope.specs.Codes.{LATE_TARGET}
use Rattle.base_scope.specs.Limits.{FILE_LIMIT, PLACE_ROW, LATE_WORDS}
use Rattle.base_scope.specs.Refusals.{found_below}
use Rattle.blocks_file.specs.Blocks.{block_count}
use Rattle.blocks_file.specs.Table.{Parsed}
use Rattle.late_blocks.specs.of_blocks_places.Lines.{line_count}
use Rattle.late_blocks.specs.of_blocks_places.Places.{Place, end_at}
use Rattle.late_blocks.specs.of_blocks_items.Items.{late_length}
use Rattle.late_blocks.specs.of_late_length.declared.LateStep.{LateStep}
use Rattle.late_blocks.specs.of_late_moves.Moves.{late_source, late_from, late_step_fault}
use Rattle.late_blocks.specs.Items.{place_words}
use Rattle.late_walk.specs.declared.LateRow.{LateRow}
use Rattle.late_walk.specs.Steps.{live_dummies}

-- how many dummies stand before block i
unfoldable pub dummy_index : List Place → List ℕ → ℕ → ℕ
dummy_index P B i = sum (live_dummies P B) i

-- the bytes of a row
unfoldable pub late_row_bytes : LateRow → List ℕ
late_row_bytes row = flat (encoded Big 4) (row.source ∷ row.dummies ∷ row.last ∷ [])

module _ (o : ByteOrder) (P : List Place) (B R : List ℕ) where
  -- the row of block i
  unfoldable pub late_row_of : ℕ → ℕ → LateRow
  late_row_of s i = record { source = late_source P B s i; dummies = dummy_index P B i; last = late_from o P B R i }

  unfoldable pub row_table : ℕ → ℕ → List ℕ
  row_table s n = gather (λ i. true) (λ i. late_row_bytes (late_row_of s i)) n

  -- the places of block i's dummies, up to the first that is lost
  unfoldable pub block_words : ℕ → List ℕ
  block_words i = place_words o B R i (late_from o P B R i) (live_dummies P B i)

  unfoldable pub word_table : ℕ → List ℕ
  word_table n = gather (λ i. true) block_words n

  -- a table with the rows of the first n blocks and the places of the first m
  unfoldable pub filled : ℕ → List ℕ → ℕ → ℕ → List ℕ
  filled s before n m = spliced (spliced before 0 (row_table s n)) LATE_WORDS (word_table m)

-- the late step can be made: what 11 and 13 leave
pub record Ready (P : List Place) (B R table places : List ℕ) (blocks : ℕ) (step : LateStep) : Type 0 where
  pub parsed : Parsed B table
  pub placed : PLACE_ROW * line_count B ≤ length places
  pub counted : blocks ≡ block_count B
  pub small : length R ≤ FILE_LIMIT
  pub span : step.start + late_length P B ≤ FILE_LIMIT
  pub from : step.last ≡ end_at P B (line_count B) LATE_TARGET
  pub inside : step.last ≤ length R

-- what the walk answers, and what it leaves in the table: the rows up to the block at fault, or all, and the places of the dummies before the fault
pub record Walk (o : ByteOrder) (P : List Place) (B R : List ℕ) (s : ℕ) (r : Option ℕ) (before after : List ℕ) : Type 0 where
  pub answer : r ≡ found_below (block_count B) (late_step_fault o P B R)
  pub table : after ≡ filled o P B R s before (late_step_fault o P B R + 1) (min (late_step_fault o P B R + 1) (block_count B))

-- the table in hand, of a late step with no fault
pub record Moves (o : ByteOrder) (P : List Place) (B R : List ℕ) (s : ℕ) (late : List ℕ) : Type 0 where
  pub clear : late_step_fault o P B R ≡ block_count B
  pub rows : Within (row_table o P B R s (block_count B + 1)) 0 late
  pub words : Within (word_table o P B R (block_count B)) LATE_WORDS late
