-- The rows of C, of A and of the statics, one behind the other, are those of all ids. Assumes nothing.
use Rattle.symbols_fill.proofs.Origins.{own, other, small, symbols_few}
use Rattle.symbols_fill.proofs.Filled.{ids_few, filled_all}
use native.Mathlib.Omega.{arith}
use mathlib.Core.Path.{refl}
use Rattle.symbols_fill.proofs.fill_rows.Goals as goal

pub fill_c-requires : goal.fill_c-requires
fill_c-requires c =
    let a = c.args in
    let q = c.requires.0.places in
    (q.compiled, omega (arith, c.requires.1, own a.compiled.now a.assembled.now a.statics.now a.late.now a.filling q))

pub fill_a-requires : goal.fill_a-requires
fill_a-requires c =
    let a = c.args in
    let q = c.requires.0.places in
    let n = own a.compiled.now a.assembled.now a.statics.now a.late.now a.filling q in
    let m = other a.compiled.now a.assembled.now a.statics.now a.late.now a.filling q in (
      record { viewed = q.assembled; table = q.table; small = small a.compiled.now a.assembled.now a.statics.now a.late.now a.filling q; marks = c.requires.0.marks },
      omega (arith, n, q.compiled.tabled.few),
      omega (arith, c.requires.1, m, c.fill_c.ensures.long),
    )

pub overflow_add-first : goal.overflow_add-first
overflow_add-first c =
    let a = c.args in
    record { fits = omega (arith, symbols_few a.compiled.now a.assembled.now a.statics.now a.late.now a.filling c.requires.0.places) }

pub fill_statics-requires : goal.fill_statics-requires
fill_statics-requires c =
    let a = c.args in
    let q = c.requires.0.places in (
      record { small = small a.compiled.now a.assembled.now a.statics.now a.late.now a.filling q; few = q.names.counted.few; long = q.names.counted.long; codes = q.codes },
      symbols_few a.compiled.now a.assembled.now a.statics.now a.late.now a.filling q,
      omega (arith, c.requires.1, c.fill_c.ensures.long, c.fill_a.ensures.long),
    )

pub id_count-requires : goal.id_count-requires
id_count-requires c =
    let a = c.args in
    ids_few a.compiled.now a.assembled.now a.statics.now a.late.now a.filling c.requires.0.places

pub returns : goal.returns
returns c =
    let a = c.args in
    filled_all a.compiled.now a.assembled.now a.statics.now a.late.now a.filling c.requires.0.places a.rows.now _ _ _ _
    c.fill_c.ensures c.fill_a.ensures refl c.fill_statics.ensures _ c.id_count.ensures
