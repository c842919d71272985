-- `late_blocks::table_spot` meets its contract: at each `return` the tests that led there say which case of `table_spot` holds. Assumes nothing.
use Rattle.late_blocks.proofs.Items.{table_none, table_alone, table_past, table_fits}
use native.Mathlib.Omega.{arith}
use Rattle.late_blocks.proofs.table_spot.Goals as goal

pub returns-then-bytes-eq0 : goal.returns-then-bytes-eq0
returns-then-bytes-eq0 c =
    let a = c.args in
    table_none a.rodata.now a.count a.bytes a.last c.if-bytes-eq0.true

pub returns-then-count-eq0 : goal.returns-then-count-eq0
returns-then-count-eq0 c =
    let a = c.args in
    table_alone a.rodata.now a.count a.bytes a.last c.if-bytes-eq0.false c.if-count-eq0.true

pub returns-then-rodata-last : goal.returns-then-rodata-last
returns-then-rodata-last c =
    let a = c.args in
    table_past a.rodata.now a.count a.bytes a.last c.if-bytes-eq0.false c.if-count-eq0.false (omega arith)

pub returns : goal.returns
returns c =
    let a = c.args in
    table_fits a.rodata.now a.count a.bytes a.last c.if-bytes-eq0.false c.if-count-eq0.false (omega arith)
