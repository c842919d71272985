-- A section with a place moves to it; one without a place does not move. Assumes nothing.
use Rattle.write_object.proofs.Own.{own_sum, own_high, fails_read, fails_unplaced}
use native.Mathlib.Omega.{arith}
use mathlib.Core.Path.{sym, ◌∙◌}
use Rattle.write_object.proofs.fails_at.Goals as goal

pub aligned_to-start-requires : goal.aligned_to-start-requires
aligned_to-start-requires c =
    let a = c.args in
    omega (arith, own_sum a.order a.file.now a.i a.end c.requires _ c.section_at-h.ensures)

pub overflow_cast-start : goal.overflow_cast-start
overflow_cast-start c =
    let a = c.args in
    let high = own_high a.order a.file.now a.i a.end c.requires _ c.section_at-h.ensures in
    record { fits = omega (arith, high, c.aligned_to-start.ensures) }

pub returns-then-has_place : goal.returns-then-has_place
returns-then-has_place c =
    let a = c.args in
    let t = sym c.has_place.ensures ∙ c.if-has_place.true in
    fails_read a.order a.file.now a.i a.end c.requires _ c.section_at-h.ensures _ c.contents_of-content.ensures _ c.aligned_to-start.ensures t _ c.shift_fails.ensures

pub returns : goal.returns
returns c =
    let a = c.args in
    fails_unplaced a.order a.file.now a.i a.end c.requires _ c.section_at-h.ensures (sym c.has_place.ensures ∙ c.if-has_place.false)
