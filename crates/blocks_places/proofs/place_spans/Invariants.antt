use Rattle.blocks_places.proofs.Walk.{Walking}
use Rattle.blocks_places.proofs.place_spans.Given as goal

abbrev pub invariant-loop-j : goal.invariant-loop-j
invariant-loop-j l = Walking l.order l.compiled l.file l.initial.places l.j l.ends l.on l.places
