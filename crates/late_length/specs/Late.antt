-- Whether there is a late step (document 01: "The late step runs only where some dummy or jump table exists"). A block that is switched off has no part in it.
use Rattle.std.specs.Prelude.{ℕ, Bool, ◌&&◌, ◌||◌, List, ltb}
use Rattle.base_lists.specs.Ranges.{first}
use Rattle.blocks_file.specs.Blocks.{block_count}
use Rattle.blocks_places.specs.Places.{Place, live}
use Rattle.blocks_items.specs.Items.{dummy_count, jump_table}

module _ (P : List Place) (B : List ℕ) where
  -- block i stays on and has a dummy or a jump table
  unfoldable pub is_late : ℕ → Bool
  is_late i = live P B i && (ltb 0 (dummy_count B i) || ltb 0 (jump_table B i))

  unfoldable pub has_late_step : Bool
  has_late_step = ltb (first is_late 0 (block_count B)) (block_count B)
