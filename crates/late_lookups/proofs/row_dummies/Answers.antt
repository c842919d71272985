-- `late_lookups::row_dummies` meets its contract: the numbers of dummies ascend. Assumes nothing.
use Rattle.late_lookups.proofs.Fields.{dummies_read}
use native.Mathlib.Omega.{arith}
use Rattle.late_lookups.proofs.row_dummies.Goals as goal

pub overflow_sub-result : goal.overflow_sub-result
overflow_sub-result c =
    let a = c.args in
    let p = c.requires in
    omega (arith, c.field_at.ensures.0, c.field_at-before.ensures.0, p.rises 1 (omega arith))

pub returns : goal.returns
returns c =
    let a = c.args in
    dummies_read a.late.now a.i c.field_at-before.result c.field_at.result c.field_at-before.ensures.0 c.field_at.ensures.0
