-- Value 0 is at fault, and any other that is not moved. Assumes nothing.
use Rattle.symbols_taken.proofs.Faults.{value_zero, value_read}
use Rattle.symbols_taken.proofs.is_unmoved_value.Goals as goal

pub returns-then-x-eq0 : goal.returns-then-x-eq0
returns-then-x-eq0 c =
    let a = c.args in
    value_zero a.runs a.late.now a.blocks a.x c.if-x-eq0.true

pub returns : goal.returns
returns c =
    let a = c.args in
    value_read a.runs a.late.now a.blocks a.x _ c.if-x-eq0.false c.is_moved.ensures
