-- The table answers where the step runs. Assumes nothing.
use Rattle.symbols_taken.proofs.Faults.{moved_yes, moved_no, moved_idle}
use Rattle.symbols_taken.proofs.is_moved.Goals as goal

pub offset_at-requires : goal.offset_at-requires
offset_at-requires c = c.requires c.if-runs.true

pub returns-in-Some : goal.returns-in-Some
returns-in-Some c =
    let a = c.args in
    moved_yes a.runs a.late.now a.blocks a.x _ _ c.if-runs.true c.offset_at.ensures c.in-Some.is

pub returns-in-None : goal.returns-in-None
returns-in-None c =
    let a = c.args in
    moved_no a.runs a.late.now a.blocks a.x _ c.if-runs.true c.offset_at.ensures c.in-None.is

pub returns : goal.returns
returns c =
    let a = c.args in
    moved_idle a.runs a.late.now a.blocks a.x c.if-runs.false
