-- A local symbol is loose where it is undefined, any other where it has no name. Assumes nothing.
use Rattle.symbols_rows.proofs.Faults.{loose_local, loose_other}
use Rattle.symbols_rows.proofs.is_loose.Goals as goal

pub returns-then-row : goal.returns-then-row
returns-then-row c =
    let a = c.args in
    loose_local a.rows.now a.list.now a.p _ c.row_at-row.ensures c.if-row.true

pub returns : goal.returns
returns c =
    let a = c.args in
    loose_other a.rows.now a.list.now a.p _ c.row_at-row.ensures c.if-row.false
