use Rattle.late_blocks.specs.of_blocks_places.Lines.{line_count}
use Rattle.late_blocks.specs.of_blocks_places.Table.{places_in}
use Rattle.late_walk.proofs.Walk.{WalkingBlocks}
use Rattle.late_walk.proofs.place_late.Given as goal

abbrev pub invariant-loop-i : goal.invariant-loop-i
invariant-loop-i l =
    WalkingBlocks l.order (places_in l.places (line_count l.file)) l.file l.rodata l.initial.row.source l.initial.late l.i l.row l.late
