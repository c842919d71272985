-- `copy_spans::end_behind` meets its contract: a record of the section moves its end. Assumes nothing.
use borrow.Author.Tests.{eq-eqb, ne_eqb}
use Rattle.copy_spans.specs.Records.{end_behind}
use Rattle.copy_spans.proofs.end_behind.Goals as goal

pub returns-then-x-code : goal.returns-then-x-code
unfolding end_behind
returns-then-x-code c =
    let a = c.args in
    rw (eq-eqb a.x.code a.code c.if-x-code.true)

pub returns : goal.returns
unfolding end_behind
returns c =
    let a = c.args in
    rw (ne_eqb a.x.code a.code c.if-x-code.false)
