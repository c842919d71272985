-- By the code. Assumes nothing.
use Rattle.symbols_fill.proofs.Places.{value_late, value_stays}
use Rattle.symbols_fill.proofs.late_value.Goals as goal

pub returns-then-code-eq-LATE_RODATA : goal.returns-then-code-eq-LATE_RODATA
returns-then-code-eq-LATE_RODATA c =
    let a = c.args in
    value_late a.runs a.late.now a.blocks a.x a.code _ c.if-code-eq-LATE_RODATA.true c.late_place.ensures

pub returns : goal.returns
returns c =
    let a = c.args in
    value_stays a.runs a.late.now a.blocks a.x a.code c.if-code-eq-LATE_RODATA.false
