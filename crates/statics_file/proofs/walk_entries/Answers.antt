-- After j turns the first j entries are completed, their statics stand in the table, and the scopes that they open and close are counted. A turn ends the loop
-- at the first entry at fault. Assumes nothing.
use Rattle.statics_file.proofs.File.{walk_none, walk_long, walk_stop, walk_next, walk_end}
use native.Mathlib.Omega.{arith}
use Rattle.statics_file.proofs.walk_entries.Goals as goal

pub loop-j-init : goal.loop-j-init
loop-j-init c =
    let a = c.args in
    walk_none a.order a.file.now a.setting.head a.part a.table.now a.tally c.requires.1

pub overflow_mul-at : goal.overflow_mul-at
overflow_mul-at c = omega (arith, c.requires.4)

pub overflow_add-at : goal.overflow_add-at
overflow_add-at c = omega (arith, c.requires.2, c.requires.4)

pub overflow_add-nested : goal.overflow_add-nested
overflow_add-nested c = omega (arith, c.requires.4, c.loop-j.invariant.few.1)

pub walk_entry-e-requires : goal.walk_entry-e-requires
walk_entry-e-requires c =
    let q = c.requires in
    (q.0, c.loop-j.invariant.filled, omega (arith, q.2, q.4), q.3)

pub shape_of-table-then-e : goal.shape_of-table-then-e
shape_of-table-then-e c =
    let a = c.args in
    let l = c.loop-j in
    walk_long a.order a.file.now a.setting.head a.part a.table.now a.tally.count l.j l.opened l.closed l.filled l.table l.invariant _ _ c.walk_entry-e.ensures c.loop-j-test.true

pub returns-then-e : goal.returns-then-e
returns-then-e c =
    let a = c.args in
    let l = c.loop-j in
    walk_stop a.order a.file.now a.setting.head a.part a.table.now a.tally.count l.j l.opened l.closed l.filled l.table l.invariant _ _ c.walk_entry-e.ensures c.loop-j-test.true c.if-e.true

pub overflow_add-opened : goal.overflow_add-opened
overflow_add-opened c = omega (arith, c.requires.4, c.loop-j.invariant.few.0, c.opens-opened.ensures.1)

pub overflow_add-closed : goal.overflow_add-closed
overflow_add-closed c = omega (arith, c.requires.4, c.loop-j.invariant.few.1, c.closes-closed.ensures.1)

pub loop-j-preserved : goal.loop-j-preserved
loop-j-preserved c =
    let a = c.args in
    let l = c.loop-j in
    walk_next a.order a.file.now a.setting.head a.part a.table.now a.tally.count l.j l.opened l.closed l.filled l.table l.invariant _ _ c.walk_entry-e.ensures c.loop-j-test.true _ _ c.if-e.false c.opens-opened.ensures c.closes-closed.ensures

pub shape_of-table : goal.shape_of-table
shape_of-table c = c.loop-j.invariant.long

pub returns : goal.returns
returns c =
    let a = c.args in
    let l = c.loop-j in
    walk_end a.order a.file.now a.setting.head a.part a.table.now a.tally.count l.j l.opened l.closed l.filled l.table l.invariant (omega arith)
