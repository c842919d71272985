-- `late_lookups::is_table_word` meets its contract: the tests say which case of `is_table_word` holds. Assumes nothing.
use Rattle.late_lookups.proofs.Fields.{table_low, table_is}
use native.Mathlib.Omega.{arith}
use Rattle.late_lookups.proofs.is_table_word.Goals as goal

pub overflow_add-x : goal.overflow_add-x
overflow_add-x c =
    let a = c.args in
    let p = c.requires in
    omega (arith, p.1, c.field_at-end.ensures.0, c.field_at-end.ensures.1, c.row_bytes-bytes.ensures, p.0.tables)

pub returns-then-x-bytes : goal.returns-then-x-bytes
returns-then-x-bytes c =
    let a = c.args in
    let p = c.requires in
    table_low a.late.now a.i a.x c.row_bytes-bytes.result c.field_at-end.result c.row_bytes-bytes.ensures c.field_at-end.ensures.0 (omega arith)

pub overflow_add-result : goal.overflow_add-result
overflow_add-result c =
    let a = c.args in
    let p = c.requires in
    omega (arith, p.1, c.field_at-end.ensures.0, c.field_at-end.ensures.1, c.row_bytes-bytes.ensures, p.0.tables)

pub returns : goal.returns
returns c =
    let a = c.args in
    let p = c.requires in
    table_is a.late.now a.i a.x c.row_bytes-bytes.result c.field_at-end.result c.row_bytes-bytes.ensures c.field_at-end.ensures.0 (omega arith)
