-- A table, by its section. Assumes nothing.
use Rattle.carry_clash.proofs.Cut.{leads_none, leads_there}
use Rattle.carry_clash.proofs.leads_out.Goals as goal

pub returns-then-is_table : goal.returns-then-is_table
returns-then-is_table c =
    let args = c.args in
    let is-table = c.is_table in
    let if1 = c.if-is_table in
    let section_at_lem = c.section_at-h in
    leads_there args.order args.compiled.now args.i _ is-table.ensures if1.true _ section_at_lem.ensures args.stay

pub returns : goal.returns
returns c =
    let args = c.args in
    let is-table = c.is_table in
    let if1 = c.if-is_table in
    leads_none args.order args.compiled.now args.i _ is-table.ensures if1.false args.stay
