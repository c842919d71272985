-- By where it goes. Assumes nothing.
use Rattle.carry_entries.proofs.Goals.{goal_moves}
use Rattle.carry_entries.proofs.place_asked.Goals as goal

pub goal_of-requires : goal.goal_of-requires
goal_of-requires c = rw c.moves_of.ensures c.requires

pub returns : goal.returns
returns c =
    let a = c.args in
    let goal = goal_moves a.side _ c.moves_of.ensures a.rows.now a.late.now a.code a.x _ c.goal_of.ensures in
    rw (← goal) c.stands_at.ensures
