-- The invariant is what is left, of the rows so far. Assumes nothing.
use Rattle.symbols_fill.specs.Fill.{row_static}
use Rattle.symbols_fill.proofs.Filled.{put_none, put_next, put_all}
use native.Mathlib.Omega.{arith}
use Rattle.symbols_fill.proofs.fill_statics.Goals as goal

pub loop-k-init : goal.loop-k-init
loop-k-init c =
    let a = c.args in
    (omega arith, put_none (row_static a.compiled.now a.statics.now a.filling) a.first a.rows.now)

pub row_static-row-requires : goal.row_static-row-requires
row_static-row-requires c =
    let q = c.requires.0 in
    let l = c.loop-k in
    let t = c.loop-k-test.true in
    record { small = q.small; few = omega (arith, t, q.few); long = omega (arith, t, q.long); code = q.codes l.k t }

pub write_id-requires : goal.write_id-requires
write_id-requires c =
    let l = c.loop-k in
    (omega (arith, c.loop-k-test.true, c.requires.2, l.invariant.1.long), c.row_static-row.ensures.1)

pub loop-k-preserved : goal.loop-k-preserved
loop-k-preserved c =
    let a = c.args in
    let l = c.loop-k in
    let t = c.loop-k-test.true in
    let r = c.row_static-row.ensures in
    (omega (arith, t), put_next (row_static a.compiled.now a.statics.now a.filling) a.first a.rows.now l.rows _ l.k _ l.invariant.1 (omega (arith, t, c.requires.2, l.invariant.1.long)) r.0 r.1.0 c.write_id.ensures)

pub shape_of-rows : goal.shape_of-rows
shape_of-rows c =
    c.loop-k.invariant.1.long

pub returns : goal.returns
returns c =
    let l = c.loop-k in
    let a = c.args in
    put_all (row_static a.compiled.now a.statics.now a.filling) a.first a.rows.now l.rows l.k _ l.invariant.1 (omega (arith, l.invariant.0, c.loop-k-test.false))
