-- The object where there is room for it, else refusal 21 with its length. Assumes nothing.
use Rattle.write_merged.proofs.Plans.{end_inside}
use Rattle.write_merged.proofs.Merged.{ready_still, total_is, total_few, held_fits, held_at, held_image, held_written, held_counted}
use Rattle.write_planned.specs.Held.{held_plan}
use Rattle.base_answers.proofs.Answered.{room_there, room_short}
use native.Mathlib.Omega.{arith}
use mathlib.Core.Path.{◌∙◌}
use Rattle.write_merged.proofs.place_merged.Goals as goal

pub section_total-many-requires : goal.section_total-many-requires
section_total-many-requires c =
    let a = c.args in
    total_few a.compiled.now a.assembled.now a.file.now a.path.now a.x a.table.now a.places.now a.steps.now a.index.now c.requires.0

pub merged_end-end-requires : goal.merged_end-end-requires
merged_end-end-requires c = (c.requires.0, c.requires.1)

pub aligned_to-at-requires : goal.aligned_to-at-requires
aligned_to-at-requires c =
    let a = c.args in
    omega (arith, c.merged_end-end.ensures.0, end_inside (held_plan a.compiled.now a.assembled.now a.file.now a.path.now a.x a.places.now) a.x.stage.inputs.order (held_plan a.compiled.now a.assembled.now a.file.now a.path.now a.x a.places.now).many (omega arith), held_fits a.compiled.now a.assembled.now a.file.now a.path.now a.x a.table.now a.places.now a.steps.now a.index.now c.requires.0)

pub overflow_mul-long : goal.overflow_mul-long
overflow_mul-long c =
    let a = c.args in
    omega (arith, c.section_total-many.ensures, total_few a.compiled.now a.assembled.now a.file.now a.path.now a.x a.table.now a.places.now a.steps.now a.index.now c.requires.0)

pub overflow_add-long : goal.overflow_add-long
overflow_add-long c =
    let a = c.args in
    let p = c.requires in
    let n = c.section_total-many.ensures ∙ total_is a.compiled.now a.assembled.now a.file.now a.path.now a.x a.table.now a.places.now a.steps.now a.index.now p.0 in
    omega (arith, held_image a.compiled.now a.assembled.now a.file.now a.path.now a.x a.table.now a.places.now a.steps.now a.index.now p.0 p.2 _ _ _ c.merged_end-end.ensures.0 c.aligned_to-at.ensures n, held_fits a.compiled.now a.assembled.now a.file.now a.path.now a.x a.table.now a.places.now a.steps.now a.index.now p.0)

pub write_merged-requires : goal.write_merged-requires
write_merged-requires c =
    let a = c.args in
    let p = c.requires in
    let n = c.section_total-many.ensures ∙ total_is a.compiled.now a.assembled.now a.file.now a.path.now a.x a.table.now a.places.now a.steps.now a.index.now p.0 in
    let at = held_at a.compiled.now a.assembled.now a.file.now a.path.now a.x a.table.now a.places.now a.steps.now a.index.now p.0 p.2 _ _ _ c.merged_end-end.ensures.0 c.aligned_to-at.ensures n in
    let long = held_image a.compiled.now a.assembled.now a.file.now a.path.now a.x a.table.now a.places.now a.steps.now a.index.now p.0 p.2 _ _ _ c.merged_end-end.ensures.0 c.aligned_to-at.ensures n in
    (ready_still a.compiled.now a.assembled.now a.file.now a.path.now a.x a.table.now a.places.now a.steps.now a.index.now p.0 _ c.merged_end-end.ensures.1, p.1, p.2, c.merged_end-end.ensures.0, at, n, omega (arith, long, c.if-long-out.true))

pub returns-then-long-out : goal.returns-then-long-out
returns-then-long-out c =
    let a = c.args in
    let p = c.requires in
    let n = c.section_total-many.ensures ∙ total_is a.compiled.now a.assembled.now a.file.now a.path.now a.x a.table.now a.places.now a.steps.now a.index.now p.0 in
    let w = held_written a.compiled.now a.assembled.now a.file.now a.path.now a.x a.table.now a.places.now a.steps.now a.index.now p.0 p.2 _ _ _ c.merged_end-end.ensures.0 c.aligned_to-at.ensures n _ _ c.write_merged.auto.out c.write_merged.ensures.0 in
    room_there _ _ _ _ _ w c.if-long-out.true c.result.ensures

pub returns : goal.returns
returns c =
    let a = c.args in
    let p = c.requires in
    let l = c.if-long-out.false in
    let n = c.section_total-many.ensures ∙ total_is a.compiled.now a.assembled.now a.file.now a.path.now a.x a.table.now a.places.now a.steps.now a.index.now p.0 in
    let w = held_counted a.compiled.now a.assembled.now a.file.now a.path.now a.x a.table.now a.places.now a.steps.now a.index.now p.0 p.2 _ _ _ c.merged_end-end.ensures.0 c.aligned_to-at.ensures n a.out.now (omega (arith, l)) in
    room_short _ _ _ _ _ w (omega (arith, l)) c.refused.ensures
