-- By the side. Assumes nothing.
use Rattle.carry_entries.proofs.Goals.{tables_compiled, tables_assembled}
use Rattle.carry_entries.proofs.is_carrying.Goals as goal

pub returns-then-side : goal.returns-then-side
returns-then-side c =
    let if1 = c.if-side in
    let is-table = c.is_table in
    let a = c.args in
    tables_compiled a.side.order a.file.now a.t _ a.side.compiled if1.true is-table.ensures

pub returns : goal.returns
returns c =
    let if1 = c.if-side in
    let is_Carried = c.is_carried in
    let a = c.args in
    tables_assembled a.side.order a.file.now a.t _ a.side.compiled if1.false is_Carried.ensures
