-- After i turns the first i files are completed and their entries counted; the first file that fails ends the loop. Assumes nothing.
use Rattle.statics_walk.proofs.Walk.{files_none, files_long, files_stop, files_next, files_end}
use native.Mathlib.Omega.{arith}
use Rattle.statics_walk.proofs.walk_files.Goals as goal

pub loop-i-init : goal.loop-i-init
loop-i-init c =
    let a = c.args in
    files_none a.order a.file.now a.setting.head a.t a.table.now c.requires.1

pub walk_file-e-requires : goal.walk_file-e-requires
walk_file-e-requires c =
    let l = c.loop-i in
    (c.requires.0, l.invariant.filled, omega arith, l.invariant.list)

pub overflow_add-entries : goal.overflow_add-entries
overflow_add-entries c =
    let f = c.loop-i.invariant.few in
    let m = c.walk_file-e.ensures.few in
    omega arith

pub shape_of-table-then-e : goal.shape_of-table-then-e
shape_of-table-then-e c =
    let a = c.args in
    let l = c.loop-i in
    files_long a.order a.file.now a.setting.head a.t a.table.now l.i l.entries l.filled l.table l.invariant _ _ c.walk_file-e.ensures c.loop-i-test.true

pub returns-then-e : goal.returns-then-e
returns-then-e c =
    let a = c.args in
    let l = c.loop-i in
    files_stop a.order a.file.now a.setting.head a.t a.table.now l.i l.entries l.filled l.table l.invariant _ _ c.walk_file-e.ensures c.loop-i-test.true c.if-e.true

pub loop-i-preserved : goal.loop-i-preserved
loop-i-preserved c =
    let a = c.args in
    let l = c.loop-i in
    files_next a.order a.file.now a.setting.head a.t a.table.now l.i l.entries l.filled l.table l.invariant _ _ c.walk_file-e.ensures c.loop-i-test.true c.if-e.false

pub shape_of-table : goal.shape_of-table
shape_of-table c = c.loop-i.invariant.long

pub returns : goal.returns
returns c =
    let a = c.args in
    let l = c.loop-i in
    files_end a.order a.file.now a.setting.head a.t a.table.now l.i l.entries l.filled l.table l.invariant (omega arith)
