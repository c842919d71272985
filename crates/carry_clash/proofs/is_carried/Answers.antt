-- A table of one of the five, by the bytes of that one. Assumes nothing.
use Rattle.carry_clash.proofs.Joined.{carried_not, carried_by}
use Rattle.carry_clash.proofs.is_carried.Goals as goal

pub returns-then-is_source_table : goal.returns-then-is_source_table
returns-then-is_source_table c =
    let args = c.args in
    let is-source-table = c.is_source_table in
    let if1 = c.if-is_source_table in
    let section_at_lem = c.section_at-h in
    let pre = c.requires in
    let code_of_lem = c.code_of-code in
    let coded-contents = c.coded_contents-bytes in
    carried_by args.order args.assembled.now args.t _ is-source-table.ensures if1.true _ section_at_lem.ensures args.view pre.0.is _ code_of_lem.ensures.0 _ coded-contents.ensures

pub returns : goal.returns
returns c =
    let args = c.args in
    let is-source-table = c.is_source_table in
    let if1 = c.if-is_source_table in
    carried_not args.order args.assembled.now args.t _ is-source-table.ensures if1.false
