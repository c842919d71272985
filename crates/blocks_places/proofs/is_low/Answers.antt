-- `blocks_places::is_low` meets its contract, in each of its two ways. Assumes nothing.
use Rattle.blocks_places.specs.Table.{low_place}
use borrow.Author.Tests.{eq-eqb, ne_eqb}
use Rattle.blocks_places.proofs.is_low.Goals as goal

pub returns-then-size-eq0 : goal.returns-then-size-eq0
unfolding low_place
returns-then-size-eq0 c = rw (eq-eqb c.args.size 0 c.if-size-eq0.true)

pub returns : goal.returns
unfolding low_place
returns c = rw (ne_eqb c.args.size 0 c.if-size-eq0.false)
