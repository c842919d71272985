use Rattle.base_lists.specs.Ranges.{first}
use Rattle.blocks_file.specs.Blocks.{block_count}
use Rattle.blocks_places.specs.Lines.{line_count}
use Rattle.blocks_places.specs.Table.{places_in}
use Rattle.draft_text.specs.Draft.{late_at}
use Prim.Native.Nat.{◌≤◌}
use mathlib.Core.Path.{◌≡◌}
use Rattle.draft_text.proofs.is_late.Given as goal

abbrev pub invariant-loop-i : goal.invariant-loop-i
invariant-loop-i l =
    (l.i ≤ l.count) × (first (late_at (places_in l.places (line_count l.file)) l.file) 0 (block_count l.file) ≡ first (late_at (places_in l.places (line_count l.file)) l.file) l.i (block_count l.file))
