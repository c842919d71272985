-- `late_lookups::row_bytes` meets its contract: the dummies of a block fit in its part. Assumes nothing.
use Rattle.late_lookups.proofs.Fields.{table_read}
use native.Mathlib.Omega.{arith}
use Rattle.late_lookups.proofs.row_bytes.Goals as goal

pub overflow_sub-result : goal.overflow_sub-result
overflow_sub-result c =
    let a = c.args in
    let p = c.requires in
    let q = p.parts in
    omega (arith, c.field_at.ensures.0, c.field_at.ensures.1, c.field_at-before.ensures.0, c.row_dummies-count.ensures, q)

pub overflow_mul-result : goal.overflow_mul-result
overflow_mul-result c =
    let a = c.args in
    let p = c.requires in
    let q = p.parts in
    omega (arith, c.field_at.ensures.0, c.field_at.ensures.1, c.field_at-before.ensures.0, c.row_dummies-count.ensures, q)

pub overflow_sub-result-2 : goal.overflow_sub-result-2
overflow_sub-result-2 c =
    let a = c.args in
    let p = c.requires in
    let q = p.parts in
    omega (arith, c.field_at.ensures.0, c.field_at.ensures.1, c.field_at-before.ensures.0, c.row_dummies-count.ensures, q)

pub returns : goal.returns
returns c =
    let a = c.args in
    table_read a.late.now a.i c.field_at-before.result c.field_at.result c.row_dummies-count.result c.field_at-before.ensures.0 c.field_at.ensures.0
    c.row_dummies-count.ensures
