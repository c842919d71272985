-- Entry 0 is not taken; any other is, where its name is no helper's. Assumes nothing.
use Rattle.symbols_taken.proofs.Symbols.{taken_null, taken_named}
use Rattle.symbols_taken.proofs.is_taken_c.Goals as goal

pub returns-then-k-eq0 : goal.returns-then-k-eq0
returns-then-k-eq0 c =
    let a = c.args in
    taken_null a.order a.compiled.now a.k c.if-k-eq0.true

pub returns : goal.returns
returns c =
    let a = c.args in
    taken_named a.order a.compiled.now a.k _ c.if-k-eq0.false c.is_helper.ensures
