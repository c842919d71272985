-- `late_runs::table_run` meets its contract: the numbers read are those of the definition. Assumes nothing.
use Rattle.late_runs.proofs.Words.{run_in_table}
use native.Mathlib.Omega.{arith}
use Rattle.late_runs.proofs.table_run.Goals as goal

pub overflow_add-i : goal.overflow_add-i
overflow_add-i c =
    let a = c.args in
    let p = c.requires in
    omega (arith, p.0.few)

pub field_at-requires : goal.field_at-requires
field_at-requires c =
    let a = c.args in
    let p = c.requires in
    (omega arith, omega (arith, p.0.few), omega (arith, p.0.long))

pub overflow_sub-rest : goal.overflow_sub-rest
overflow_sub-rest c =
    let a = c.args in
    let p = c.requires in
    omega (arith, p.1, c.field_at.ensures.0)

pub overflow_add-i-2 : goal.overflow_add-i-2
overflow_add-i-2 c =
    let a = c.args in
    let p = c.requires in
    omega (arith, p.0.few)

pub field_at-requires-2 : goal.field_at-requires-2
field_at-requires-2 c =
    let a = c.args in
    let p = c.requires in
    (omega arith, omega (arith, p.0.few), omega (arith, p.0.long))

pub overflow_sub-result : goal.overflow_sub-result
overflow_sub-result c =
    let a = c.args in
    let p = c.requires in
    omega (arith, p.2, c.field_at-2.ensures.0, c.field_at.ensures.0)

pub returns : goal.returns
returns c =
    let a = c.args in
    let p = c.requires in
    run_in_table a.late.now a.i a.x c.field_at-2.result c.field_at.result c.field_at-2.ensures.0 c.field_at.ensures.0
