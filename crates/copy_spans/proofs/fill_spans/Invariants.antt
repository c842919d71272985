use Rattle.blocks_places.specs.Table.{places_in}
use Rattle.blocks_places.specs.Lines.{line_count}
use Rattle.copy_spans.proofs.Records.{Filling}
use Rattle.copy_spans.proofs.fill_spans.Given as goal

abbrev pub invariant-loop-j : goal.invariant-loop-j
invariant-loop-j l = Filling (places_in l.places (line_count l.file)) l.file l.initial.spans l.n l.j l.spans
