-- `copy_spans::is_low` meets its contract: the tests are those of the definition, in its order. Assumes nothing.
use borrow.Author.Tests.{eq-eqb, ne_eqb}
use Rattle.blocks_places.specs.Table.{low_place}
use Rattle.copy_spans.specs.Records.{is_low}
use Rattle.copy_spans.proofs.is_low.Goals as goal

pub returns-then-x-code : goal.returns-then-x-code
unfolding is_low
returns-then-x-code c =
    let a = c.args in
    rw (ne_eqb a.x.code a.code c.if-x-code.true)

pub returns-then-x-eq0 : goal.returns-then-x-eq0
unfolding is_low low_place
returns-then-x-eq0 c =
    let a = c.args in
    rw (eq-eqb a.x.code a.code c.if-x-code.false, eq-eqb a.x.size 0 c.if-x-eq0.true)

pub returns : goal.returns
unfolding is_low low_place
returns c =
    let a = c.args in
    rw (eq-eqb a.x.code a.code c.if-x-code.false, ne_eqb a.x.size 0 c.if-x-eq0.false)
