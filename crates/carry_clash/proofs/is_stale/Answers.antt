-- A table, not empty, by the code of its section. Assumes nothing.
use Rattle.carry_clash.proofs.Cut.{stale_none, stale_empty, stale_coded}
use Rattle.carry_clash.proofs.is_stale.Goals as goal

pub returns-then-h-gt0 : goal.returns-then-h-gt0
returns-then-h-gt0 c =
    let args = c.args in
    let is-table = c.is_table in
    let if1 = c.if-is_table in
    let section_at_lem = c.section_at-h in
    let if2 = c.if-h-gt0 in
    let pre = c.requires in
    let code_of_lem = c.code_of-code in
    stale_coded args.order args.compiled.now args.i _ is-table.ensures if1.true _ section_at_lem.ensures if2.true args.view pre.0.is _ code_of_lem.ensures.0

pub returns-else-h-gt0 : goal.returns-else-h-gt0
returns-else-h-gt0 c =
    let args = c.args in
    let is-table = c.is_table in
    let if1 = c.if-is_table in
    let section_at_lem = c.section_at-h in
    let if2 = c.if-h-gt0 in
    stale_empty args.order args.compiled.now args.i _ is-table.ensures if1.true _ section_at_lem.ensures if2.false

pub returns-else-is_table : goal.returns-else-is_table
returns-else-is_table c =
    let args = c.args in
    let is-table = c.is_table in
    let if1 = c.if-is_table in
    stale_none args.order args.compiled.now args.i _ is-table.ensures if1.false
