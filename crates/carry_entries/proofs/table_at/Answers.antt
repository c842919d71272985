-- Field by field. Assumes nothing.
use Rattle.carry_entries.proofs.Goals.{table_read}
use Rattle.carry_entries.proofs.table_at.Goals as goal

pub returns : goal.returns
returns c =
    let section_at_lem = c.section_at-h in
    let code_of_lem = c.code_of-code in
    let width_of_lem = c.width_of in
    let a = c.args in
    table_read a.side.order a.file.now a.t a.side.view c.requires.0.is _ section_at_lem.ensures _ code_of_lem.ensures.0 _ width_of_lem.ensures
