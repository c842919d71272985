use Rattle.blocks_places.specs.Lines.{line_count}
use Rattle.blocks_places.specs.Table.{places_in}
use Rattle.blocks_spans.proofs.Table.{Ending}
use Rattle.blocks_spans.proofs.span_ends.Given as goal

abbrev pub invariant-loop-j : goal.invariant-loop-j
invariant-loop-j l = Ending (places_in l.places (line_count l.file)) l.file l.j l.ends
