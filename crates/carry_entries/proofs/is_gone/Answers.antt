-- One of two causes. Assumes nothing.
use Rattle.carry_entries.proofs.Goals.{gone_replaced, gone_jump}
use Rattle.carry_entries.proofs.is_gone.Goals as goal

pub returns-then-is_replaced : goal.returns-then-is_replaced
returns-then-is_replaced c =
    let is-replaced = c.is_replaced in
    let if1 = c.if-is_replaced in
    let a = c.args in
    gone_replaced a.moves a.rows.now a.late.now a.code a.x _ is-replaced.ensures if1.true

pub returns : goal.returns
returns c =
    let is-replaced = c.is_replaced in
    let if1 = c.if-is_replaced in
    let is-jump = c.is_jump in
    let a = c.args in
    gone_jump a.moves a.rows.now a.late.now a.code a.x _ is-replaced.ensures if1.false _ is-jump.ensures
