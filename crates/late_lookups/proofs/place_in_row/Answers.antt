-- `late_lookups::place_in_row` meets its contract: the place of a dummy lies in the table, and an offset behind the dummies is no further from the end than the jump
-- table is long. Assumes nothing.
use Rattle.late_lookups.proofs.Fields.{word_read, place_word, place_rest, row_words, row_rest}
use native.Mathlib.Omega.{arith}
use Prim.Native.Nat.{◌+◌, ◌-◌, ◌/◌, ◌<◌}
use mathlib.Core.Path.{◌≡◌}
use Rattle.late_lookups.specs.Fields.{late_field, row_dummies}
use Rattle.late_lookups.proofs.place_in_row.Goals as goal

pub overflow_sub-k : goal.overflow_sub-k
overflow_sub-k c =
    let a = c.args in
    let p = c.requires in
    omega (arith, c.field_at.ensures.0, p.1)

pub overflow_add-m : goal.overflow_add-m
overflow_add-m c =
    let a = c.args in
    let p = c.requires in
    omega (arith, c.field_at-then-k-count.ensures.1, c.field_at.ensures.1, c.field_at-then-k-count.ensures.0, row_words a.late.now a.i p.0 ((a.x - c.field_at.result) / 4) (omega (arith, c.row_dummies-count.ensures)))

pub overflow_mul-m : goal.overflow_mul-m
overflow_mul-m c =
    let a = c.args in
    let p = c.requires in
    let w = row_words a.late.now a.i p.0 ((a.x - c.field_at.result) / 4) (omega (arith, c.row_dummies-count.ensures)) in
    omega (arith, w, c.field_at-then-k-count.ensures.0)

pub overflow_add-m-then-k-count : goal.overflow_add-m-then-k-count
overflow_add-m-then-k-count c =
    let a = c.args in
    let p = c.requires in
    let w = row_words a.late.now a.i p.0 ((a.x - c.field_at.result) / 4) (omega (arith, c.row_dummies-count.ensures)) in
    omega (arith, w, c.field_at-then-k-count.ensures.0)

pub read24-requires : goal.read24-requires
read24-requires c =
    let a = c.args in
    let p = c.requires in
    let w = row_words a.late.now a.i p.0 ((a.x - c.field_at.result) / 4) (omega (arith, c.row_dummies-count.ensures)) in
    omega (arith, w, c.field_at-then-k-count.ensures.0)

pub returns-then-k-count : goal.returns-then-k-count
returns-then-k-count c =
    let a = c.args in
    let p = c.requires in
    let k = (a.x - c.field_at.result) / 4 in
    let e : k ≡ (a.x - late_field a.late.now 0 a.i) / 4 = omega (arith, c.field_at.ensures.0) in
    let m : c.field_at-then-k-count.result + k ≡ late_field a.late.now 1 a.i + k = omega (arith, c.field_at-then-k-count.ensures.0) in
    let h : k < row_dummies a.late.now a.i = omega (arith, c.row_dummies-count.ensures) in
    place_word a.late.now a.i a.x k c.read24.result e h (rw (← m) (word_read a.late.now (c.field_at-then-k-count.result + k) c.read24.result c.read24.ensures.0))

pub overflow_sub-rest : goal.overflow_sub-rest
overflow_sub-rest c =
    let a = c.args in
    let p = c.requires in
    omega (arith, c.field_at-2.ensures.0, p.2)

pub overflow_sub-result : goal.overflow_sub-result
overflow_sub-result c =
    let a = c.args in
    let p = c.requires in
    let r = row_rest a.late.now a.i p.0 a.x (omega (arith, c.row_dummies-count.ensures, c.field_at.ensures.0)) p.1 in
    omega (arith, r, c.field_at-3.ensures.0, c.field_at-2.ensures.0)

pub returns : goal.returns
returns c =
    let a = c.args in
    let p = c.requires in
    let k = (a.x - c.field_at.result) / 4 in
    let e : k ≡ (a.x - late_field a.late.now 0 a.i) / 4 = omega (arith, c.field_at.ensures.0) in
    rw (c.field_at-3.ensures.0, c.field_at-2.ensures.0) (place_rest a.late.now a.i a.x k e (omega (arith, c.row_dummies-count.ensures)))
