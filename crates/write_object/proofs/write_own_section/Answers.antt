-- A section with a place is written behind its zeros; one without a place leaves the output as it was. Assumes nothing.
use Rattle.write_object.proofs.Own.{own_sum, own_low, own_high, content_small, end_placed, fails_placed, section_step, section_kept}
use native.Mathlib.Omega.{arith}
use mathlib.Core.Path.{sym, ◌∙◌}
use Rattle.write_object.proofs.write_own_section.Goals as goal

pub aligned_to-start-requires : goal.aligned_to-start-requires
aligned_to-start-requires c =
    let a = c.args in
    omega (arith, own_sum a.order a.file.now a.i a.end c.requires.0 _ c.section_at-h.ensures)

pub write_section-requires : goal.write_section-requires
write_section-requires c =
    let a = c.args in
    let p = c.requires in
    let e = c.aligned_to-start.ensures in
    let is = c.section_at-h.ensures in
    let held = c.contents_of-content.ensures in
    let t = sym c.has_place.ensures ∙ c.if-has_place.true in
    let low = own_low a.order a.file.now a.i a.end p.0 _ is in
    let high = own_high a.order a.file.now a.i a.end p.0 _ is in
    let ends = end_placed a.order a.file.now a.i a.end p.0 _ is _ held _ e t in
    let fine = fails_placed a.order a.file.now a.i a.end p.0 _ is _ held _ e t in
    (omega (arith, low, e), omega (arith, ends, p.2), omega (arith, high, e), fine ∙ p.1)

pub overflow_add-result : goal.overflow_add-result
overflow_add-result c =
    let a = c.args in
    let p = c.requires.0 in
    let high = own_high a.order a.file.now a.i a.end p _ c.section_at-h.ensures in
    let small = content_small a.order a.file.now a.i a.end p _ c.section_at-h.ensures _ c.contents_of-content.ensures in
    omega (arith, high, small, c.aligned_to-start.ensures)

pub returns-then-has_place : goal.returns-then-has_place
returns-then-has_place c =
    let a = c.args in
    let t = sym c.has_place.ensures ∙ c.if-has_place.true in
    section_step a.order a.file.now a.i a.end c.requires.0 _ c.section_at-h.ensures _ c.contents_of-content.ensures _ c.aligned_to-start.ensures t _ _ c.write_section.ensures

pub returns : goal.returns
returns c =
    let a = c.args in
    section_kept a.order a.file.now a.i a.end c.requires.0 _ c.section_at-h.ensures (sym c.has_place.ensures ∙ c.if-has_place.false) a.out.now
