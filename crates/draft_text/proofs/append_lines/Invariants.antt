use Rattle.base_lists.specs.Written.{Written}
use Rattle.base_scope.specs.Codes.{LINES}
use Rattle.blocks_places.specs.Lines.{line_count}
use Rattle.blocks_places.specs.Table.{places_in}
use Rattle.draft_text.specs.Draft.{lines_text}
use Rattle.draft_text.proofs.Places.{SectionEnds}
use Prim.Native.Nat.{◌+◌, ◌*◌, ◌^◌, ◌≤◌}
use Rattle.draft_text.proofs.append_lines.Given as goal

abbrev pub invariant-loop-j : goal.invariant-loop-j
invariant-loop-j l =
    (l.j ≤ LINES * l.count) × Written l.initial.out l.at (lines_text (places_in l.places (line_count l.file)) l.file l.j) l.next l.out × (l.next ≤ l.at + l.j * 2 ^ 34)
    × SectionEnds (places_in l.places (line_count l.file)) l.file l.j l.ends
