-- Field by field. Assumes nothing.
use Rattle.carry_entries.proofs.Goals.{carried_read}
use Rattle.carry_entries.proofs.carried_entry.Goals as goal

pub returns : goal.returns
returns c =
    let a = c.args in
    carried_read a.side a.numbers.now a.place a.entry _ c.carried_info.ensures
