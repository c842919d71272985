-- The test says whether the id is a static's, whose row has the count. Assumes nothing.
use Rattle.symbols_names.proofs.Names.{number_symbol, number_static}
use Rattle.symbols_names.proofs.name_count.Goals as goal

pub returns-then-id-first : goal.returns-then-id-first
returns-then-id-first c =
    let a = c.args in
    number_symbol a.statics.now a.sources a.id _ c.first_static-first.ensures c.if-id-first.true

pub returns : goal.returns
returns c =
    let a = c.args in
    number_static a.statics.now a.sources a.id _ c.first_static-first.ensures _ c.if-id-first.false c.read-s.ensures
