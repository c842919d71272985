-- `late_runs::dummy_place` meets its contract: the places of a block lie in the table. Assumes nothing.
use Rattle.late_lookups.proofs.Fields.{row_words}
use Rattle.late_runs.proofs.Words.{place_read}
use native.Mathlib.Omega.{arith}
use Rattle.late_runs.proofs.dummy_place.Goals as goal

pub field_at-requires : goal.field_at-requires
field_at-requires c =
    let a = c.args in
    let p = c.requires in
    (omega arith, omega (arith, p.0.row.few), omega (arith, p.0.row.long))

pub overflow_add-m : goal.overflow_add-m
overflow_add-m c =
    let a = c.args in
    let p = c.requires in
    let w = row_words a.late.now a.i p.0.row a.k p.1 in
    omega (arith, w, c.field_at.ensures.0)

pub overflow_mul-m : goal.overflow_mul-m
overflow_mul-m c =
    let a = c.args in
    let p = c.requires in
    let w = row_words a.late.now a.i p.0.row a.k p.1 in
    omega (arith, w, c.field_at.ensures.0)

pub overflow_add-m-2 : goal.overflow_add-m-2
overflow_add-m-2 c =
    let a = c.args in
    let p = c.requires in
    let w = row_words a.late.now a.i p.0.row a.k p.1 in
    omega (arith, w, c.field_at.ensures.0)

pub read24-requires : goal.read24-requires
read24-requires c =
    let a = c.args in
    let p = c.requires in
    let w = row_words a.late.now a.i p.0.row a.k p.1 in
    omega (arith, w, c.field_at.ensures.0)

pub returns : goal.returns
returns c =
    let a = c.args in
    let p = c.requires in
    let f = c.field_at in
    (place_read a.late.now a.i a.k f.result c.read24.result f.ensures.0 c.read24.ensures.0, omega (arith, c.read24.ensures.1))
