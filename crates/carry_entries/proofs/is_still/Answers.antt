-- By the tests of `is_still`, one behind the other. Assumes nothing.
use Rattle.carry_entries.proofs.Goals.{still_left, still_late, still_assembled}
use Rattle.carry_entries.proofs.is_still.Goals as goal

pub returns-then-leaves_out : goal.returns-then-leaves_out
returns-then-leaves_out c =
    let a = c.args in
    still_left a.side a.code c.if-side.true _ c.leaves_out.ensures c.if-leaves_out.true

pub returns-then-side : goal.returns-then-side
returns-then-side c =
    let a = c.args in
    still_late a.side a.code c.if-side.true _ c.leaves_out.ensures c.if-leaves_out.false _ c.is_late_target.ensures

pub returns : goal.returns
returns c = still_assembled c.args.side c.args.code c.if-side.false
