-- An offset that is not lower needs no test. Assumes nothing.
use Rattle.carry_entries.proofs.Entries.{loss_lower, loss_kept, loss_high}
use Rattle.carry_entries.proofs.lower_loss.Goals as goal

pub entry_at-entry-requires : goal.entry_at-entry-requires
entry_at-entry-requires c =
    (c.requires.0.goals.viewed.named.headed, c.requires.1, c.requires.2)

pub is_lost-requires : goal.is_lost-requires
is_lost-requires c =
    (c.requires.0.goals.spans, c.requires.0.goals.moves, c.requires.0.symbols)

pub returns-then-is_lost : goal.returns-then-is_lost
returns-then-is_lost c =
    let entry_at = c.entry_at-entry in
    let if1 = c.if-x-best in
    let is_lost = c.is_lost in
    let if2 = c.if-is_lost in
    let a = c.args in
    loss_lower a.file.now a.side a.rows.now a.late.now a.numbers.now a.table c.requires.1.is a.k _ entry_at.ensures a.best if1.true
    _ is_lost.ensures if2.true

pub returns-then-x-best : goal.returns-then-x-best
returns-then-x-best c =
    let entry_at = c.entry_at-entry in
    let is_lost = c.is_lost in
    let if2 = c.if-is_lost in
    let a = c.args in
    loss_kept a.file.now a.side a.rows.now a.late.now a.numbers.now a.table c.requires.1.is a.k _ entry_at.ensures a.best _
    is_lost.ensures if2.false

pub returns : goal.returns
returns c =
    let entry_at = c.entry_at-entry in
    let if1 = c.if-x-best in
    let a = c.args in
    loss_high a.file.now a.side a.rows.now a.late.now a.numbers.now a.table c.requires.1.is a.k _ entry_at.ensures a.best if1.false
