use Rattle.base_scope.specs.Limits.{NUMBER_LIMIT, DUMMY_LIMIT}
use Rattle.blocks_items.specs.Items.{late_bytes}
use Rattle.blocks_places.specs.Lines.{line_count}
use Rattle.blocks_places.specs.Table.{places_in}
use Rattle.blocks_file.specs.Blocks.{block_count}
use Rattle.base_lists.specs.Ranges.{sum}
use Prim.Native.Nat.{◌+◌, ◌*◌, ◌≤◌}
use mathlib.Core.Path.{◌≡◌}
use Rattle.late_length.proofs.late_length.Given as goal

abbrev pub invariant-loop-i : goal.invariant-loop-i
invariant-loop-i l = (l.i ≤ block_count l.file) × (l.n ≡ sum (late_bytes (places_in l.places (line_count l.file)) l.file) l.i) × (l.n ≤ (4 * DUMMY_LIMIT + NUMBER_LIMIT) * l.i)
