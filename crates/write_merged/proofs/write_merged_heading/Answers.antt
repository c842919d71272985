-- The header states where its section was placed, or its own offset, and what it holds, or its own size. Assumes nothing.
use Rattle.write_merged.proofs.Plans.{heading_step, heading_still}
use Rattle.write_merged.proofs.Merged.{held_many, sum_fits, start_fits, size_fits}
use Rattle.write_planned.specs.Held.{held_plan}
use native.Mathlib.Omega.{arith}
use mathlib.Core.Path.{sym, ◌∙◌}
use Rattle.write_merged.proofs.write_merged_heading.Goals as goal

pub heading_at-h-requires : goal.heading_at-h-requires
heading_at-h-requires c = (c.requires.0.ready, c.requires.0.below)

pub size_at-long-requires : goal.size_at-long-requires
size_at-long-requires c =
    let a = c.args in
    let s = c.requires.0 in
    let z = c.requires.1.long in
    (omega (arith, s.below, z), omega (arith, s.below, held_many a.compiled.now a.assembled.now a.file.now a.path.now a.x a.table.now a.places.now a.steps.now a.index.now s.ready))

pub aligned_to-start-requires : goal.aligned_to-start-requires
aligned_to-start-requires c =
    let a = c.args in
    let s = c.requires.0 in
    omega (arith, sum_fits a.compiled.now a.assembled.now a.file.now a.path.now a.x a.table.now a.places.now a.steps.now a.index.now s.ready a.i a.end s.below s.from _ c.heading_at-h.ensures.0)

pub overflow_cast-start : goal.overflow_cast-start
overflow_cast-start c =
    let a = c.args in
    let s = c.requires.0 in
    let t = sym c.has_place.ensures ∙ c.if-has_place.true in
    record { fits = omega (arith, start_fits a.compiled.now a.assembled.now a.file.now a.path.now a.x a.table.now a.places.now a.steps.now a.index.now s.ready a.i a.end s.below s.from _ c.heading_at-h.ensures.0 t, c.aligned_to-start.ensures) }

pub write_heading-requires : goal.write_heading-requires
write_heading-requires c = omega (arith, c.requires.2)

pub overflow_cast-result : goal.overflow_cast-result
overflow_cast-result c =
    let a = c.args in
    let s = c.requires.0 in
    record { fits = omega (arith, size_fits a.compiled.now a.assembled.now a.file.now a.path.now a.x a.table.now a.places.now a.steps.now a.index.now s.ready a.i s.below, c.size_at-long.ensures, c.requires.1.each a.i s.below) }

pub overflow_add-result : goal.overflow_add-result
overflow_add-result c =
    let a = c.args in
    let s = c.requires.0 in
    let n = c.size_at-long.ensures ∙ c.requires.1.each a.i s.below in
    let t = sym c.has_place.ensures ∙ c.if-has_place.true in
    omega (arith, start_fits a.compiled.now a.assembled.now a.file.now a.path.now a.x a.table.now a.places.now a.steps.now a.index.now s.ready a.i a.end s.below s.from _ c.heading_at-h.ensures.0 t, n, c.aligned_to-start.ensures)

pub returns-then-has_place : goal.returns-then-has_place
returns-then-has_place c =
    let a = c.args in
    let s = c.requires.0 in
    let n = c.size_at-long.ensures ∙ c.requires.1.each a.i s.below in
    let t = sym c.has_place.ensures ∙ c.if-has_place.true in
    heading_step (held_plan a.compiled.now a.assembled.now a.file.now a.path.now a.x a.places.now) a.x.stage.inputs.order a.i a.end s.from _ c.heading_at-h.ensures.0 _ n _ _ _ _ a.at _ _ c.aligned_to-start.ensures t c.written_size-size.ensures c.write_heading.ensures c.heading_at-h.ensures.1

pub write_heading-requires-2 : goal.write_heading-requires-2
write_heading-requires-2 c = omega (arith, c.requires.2)

pub returns : goal.returns
returns c =
    let a = c.args in
    let s = c.requires.0 in
    let n = c.size_at-long.ensures ∙ c.requires.1.each a.i s.below in
    let f = sym c.has_place.ensures ∙ c.if-has_place.false in
    heading_still (held_plan a.compiled.now a.assembled.now a.file.now a.path.now a.x a.places.now) a.x.stage.inputs.order a.i a.end s.from _ c.heading_at-h.ensures.0 _ n _ _ _ _ a.at _ f c.written_size-size.ensures c.write_heading-2.ensures c.heading_at-h.ensures.1
