-- The code of the section that the header names, by the view. Assumes nothing.
use Rattle.carry_homes.proofs.Tables.{code_read}
use Rattle.carry_homes.proofs.carried_code.Goals as goal

pub returns : goal.returns
returns c =
    let args = c.args in
    let section_at_lem = c.section_at-h in
    let pre = c.requires in
    let code_of_lem = c.code_of in
    (code_read args.order args.assembled.now args.t _ section_at_lem.ensures args.source pre.0.is _ code_of_lem.ensures.0, code_of_lem.ensures.1)
