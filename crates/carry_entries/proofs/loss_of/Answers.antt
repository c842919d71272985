-- A section whose entries are not carried loses none. Assumes nothing.
use Rattle.carry_entries.proofs.Entries.{loss_tables, loss_skips}
use Rattle.carry_entries.proofs.loss_of.Goals as goal

pub is_carrying-requires : goal.is_carrying-requires
is_carrying-requires c =
    (c.requires.0.goals.viewed, c.requires.1)

pub loss_in-requires : goal.loss_in-requires
loss_in-requires c =
    let is-carrying = c.is_carrying in
    let if1 = c.if-is_carrying in
    (c.requires.0, c.requires.1, is-carrying.ensures.1 if1.true, c.requires.2)

pub returns-then-is_carrying : goal.returns-then-is_carrying
returns-then-is_carrying c =
    let is-carrying = c.is_carrying in
    let if1 = c.if-is_carrying in
    let loss-in = c.loss_in in
    let a = c.args in
    loss_tables a.file.now a.side a.rows.now a.late.now a.numbers.now a.t a.best _ is-carrying.ensures.0 if1.true _ loss-in.ensures

pub returns : goal.returns
returns c =
    let is-carrying = c.is_carrying in
    let if1 = c.if-is_carrying in
    let a = c.args in
    loss_skips a.file.now a.side a.rows.now a.late.now a.numbers.now a.t a.best _ is-carrying.ensures.0 if1.false
