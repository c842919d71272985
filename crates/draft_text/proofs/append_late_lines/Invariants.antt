use Rattle.base_lists.specs.Ranges.{gather}
use Rattle.base_lists.specs.Written.{Written}
use Rattle.base_scope.specs.Limits.{FILE_LIMIT}
use Rattle.blocks_places.specs.Lines.{line_count}
use Rattle.blocks_places.specs.Places.{live}
use Rattle.blocks_places.specs.Table.{places_in}
use Rattle.draft_text.specs.Draft.{late_text}
use Prim.Native.Nat.{◌+◌, ◌*◌, ◌≤◌}
use Rattle.draft_text.proofs.append_late_lines.Given as goal

abbrev pub invariant-loop-i : goal.invariant-loop-i
invariant-loop-i l =
    (l.i ≤ l.count) × (l.next ≤ l.at + l.i * FILE_LIMIT) × Written l.initial.out l.at (gather (live (places_in l.places (line_count l.file)) l.file) (late_text l.file) l.i) l.next l.out
