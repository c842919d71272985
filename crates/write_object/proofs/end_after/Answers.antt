-- A section with a place ends behind its bytes, one without a place moves no end. Assumes nothing.
use Rattle.write_object.proofs.Own.{own_sum, own_high, content_small, end_placed, end_unplaced}
use native.Mathlib.Omega.{arith}
use mathlib.Core.Path.{sym, ◌∙◌}
use Rattle.write_object.proofs.end_after.Goals as goal

pub aligned_to-start-requires : goal.aligned_to-start-requires
aligned_to-start-requires c =
    let a = c.args in
    omega (arith, own_sum a.order a.file.now a.i a.end c.requires _ c.section_at-h.ensures)

pub overflow_add-result : goal.overflow_add-result
overflow_add-result c =
    let a = c.args in
    let high = own_high a.order a.file.now a.i a.end c.requires _ c.section_at-h.ensures in
    let small = content_small a.order a.file.now a.i a.end c.requires _ c.section_at-h.ensures _ c.contents_of-content.ensures in
    omega (arith, high, small, c.aligned_to-start.ensures)

pub returns-then-has_place : goal.returns-then-has_place
returns-then-has_place c =
    let a = c.args in
    end_placed a.order a.file.now a.i a.end c.requires _ c.section_at-h.ensures _ c.contents_of-content.ensures _ c.aligned_to-start.ensures (sym c.has_place.ensures ∙ c.if-has_place.true)

pub returns : goal.returns
returns c =
    let a = c.args in
    end_unplaced a.order a.file.now a.i a.end c.requires _ c.section_at-h.ensures (sym c.has_place.ensures ∙ c.if-has_place.false)
