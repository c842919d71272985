use Rattle.blocks_places.specs.Lines.{line_count}
use Rattle.blocks_places.specs.Table.{places_in}
use Rattle.blocks_spans.proofs.Table.{Gathering}
use Rattle.blocks_spans.proofs.gather_spans.Given as goal

abbrev pub invariant-loop-j : goal.invariant-loop-j
invariant-loop-j l = Gathering (places_in l.places (line_count l.file)) l.file l.code l.initial.rows l.j l.r l.rows
