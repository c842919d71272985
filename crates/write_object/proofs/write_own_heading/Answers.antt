-- The header states where its section was placed, or its own offset, and what it holds, or its own size. Assumes nothing.
use Rattle.write_object.proofs.Own.{own_sum, own_high, content_small, heading_step, heading_kept}
use native.Mathlib.Omega.{arith}
use mathlib.Core.Path.{sym, ◌∙◌}
use Rattle.write_object.proofs.write_own_heading.Goals as goal

pub overflow_cast-content : goal.overflow_cast-content
overflow_cast-content c =
    let a = c.args in
    let small = content_small a.order a.file.now a.i a.end c.requires.0 _ c.section_at-h.ensures _ c.contents_of-content.ensures in
    record { fits = omega (arith, small) }

pub aligned_to-start-requires : goal.aligned_to-start-requires
aligned_to-start-requires c =
    let a = c.args in
    omega (arith, own_sum a.order a.file.now a.i a.end c.requires.0 _ c.section_at-h.ensures)

pub overflow_cast-start : goal.overflow_cast-start
overflow_cast-start c =
    let a = c.args in
    let high = own_high a.order a.file.now a.i a.end c.requires.0 _ c.section_at-h.ensures in
    record { fits = omega (arith, high, c.aligned_to-start.ensures) }

pub overflow_add-result : goal.overflow_add-result
overflow_add-result c =
    let a = c.args in
    let p = c.requires.0 in
    let high = own_high a.order a.file.now a.i a.end p _ c.section_at-h.ensures in
    let small = content_small a.order a.file.now a.i a.end p _ c.section_at-h.ensures _ c.contents_of-content.ensures in
    omega (arith, high, small, c.aligned_to-start.ensures)

pub returns-then-has_place : goal.returns-then-has_place
returns-then-has_place c =
    let a = c.args in
    let t = sym c.has_place.ensures ∙ c.if-has_place.true in
    heading_step a.order a.file.now a.i a.end c.requires.0 _ c.section_at-h.ensures _ c.contents_of-content.ensures _ c.aligned_to-start.ensures t _ _ a.at _ c.written_size-size.ensures c.write_heading.ensures

pub returns : goal.returns
returns c =
    let a = c.args in
    let f = sym c.has_place.ensures ∙ c.if-has_place.false in
    heading_kept a.order a.file.now a.i a.end c.requires.0 _ c.section_at-h.ensures _ c.contents_of-content.ensures _ _ a.at _ f c.written_size-size.ensures c.write_heading-2.ensures
