-- `blocks_places::is_odd` meets its contract, in each of its two ways. Assumes nothing.
use Rattle.blocks_places.specs.Faults.{odd_place}
use borrow.Author.Tests.{eq-eqb, ne_eqb}
use Rattle.blocks_places.proofs.is_odd.Goals as goal

pub returns-then-align8-eq0 : goal.returns-then-align8-eq0
unfolding odd_place
returns-then-align8-eq0 c = rw (eq-eqb c.args.align8 0 c.if-align8-eq0.true)

pub returns : goal.returns
unfolding odd_place
returns c = rw (ne_eqb c.args.align8 0 c.if-align8-eq0.false)
