-- A section with a place ends behind its bytes, one without a place moves no end. Assumes nothing.
use Rattle.write_merged.proofs.Plans.{next_kept, next_sized}
use Rattle.write_merged.proofs.Merged.{held_many, sum_fits, start_fits, size_fits}
use Rattle.write_planned.specs.Held.{held_plan}
use native.Mathlib.Omega.{arith}
use mathlib.Core.Path.{sym, ◌∙◌}
use Rattle.write_merged.proofs.merged_after.Goals as goal

pub heading_at-h-requires : goal.heading_at-h-requires
heading_at-h-requires c = (c.requires.0.ready, c.requires.0.below)

pub aligned_to-start-requires : goal.aligned_to-start-requires
aligned_to-start-requires c =
    let a = c.args in
    let s = c.requires.0 in
    omega (arith, sum_fits a.compiled.now a.assembled.now a.file.now a.path.now a.x a.table.now a.places.now a.steps.now a.index.now s.ready a.i a.end s.below s.from _ c.heading_at-h.ensures.0)

pub size_at-requires : goal.size_at-requires
size_at-requires c =
    let a = c.args in
    let s = c.requires.0 in
    let z = c.requires.1.long in
    (omega (arith, s.below, z), omega (arith, s.below, held_many a.compiled.now a.assembled.now a.file.now a.path.now a.x a.table.now a.places.now a.steps.now a.index.now s.ready))

pub overflow_cast-result : goal.overflow_cast-result
overflow_cast-result c =
    let a = c.args in
    let s = c.requires.0 in
    record { fits = omega (arith, size_fits a.compiled.now a.assembled.now a.file.now a.path.now a.x a.table.now a.places.now a.steps.now a.index.now s.ready a.i s.below, c.size_at.ensures, c.requires.1.each a.i s.below) }

pub overflow_add-result : goal.overflow_add-result
overflow_add-result c =
    let a = c.args in
    let s = c.requires.0 in
    let n = c.size_at.ensures ∙ c.requires.1.each a.i s.below in
    let t = sym c.has_place.ensures ∙ c.if-has_place.true in
    omega (arith, start_fits a.compiled.now a.assembled.now a.file.now a.path.now a.x a.table.now a.places.now a.steps.now a.index.now s.ready a.i a.end s.below s.from _ c.heading_at-h.ensures.0 t, n, c.aligned_to-start.ensures)

pub returns-then-has_place : goal.returns-then-has_place
returns-then-has_place c =
    let a = c.args in
    let s = c.requires.0 in
    let n = c.size_at.ensures ∙ c.requires.1.each a.i s.below in
    let t = sym c.has_place.ensures ∙ c.if-has_place.true in
    let e = next_sized (held_plan a.compiled.now a.assembled.now a.file.now a.path.now a.x a.places.now) a.x.stage.inputs.order a.i a.end s.from _ c.heading_at-h.ensures.0 _ n t in
    (omega (arith, e, c.aligned_to-start.ensures), c.heading_at-h.ensures.1)

pub returns : goal.returns
returns c =
    let a = c.args in
    (next_kept (held_plan a.compiled.now a.assembled.now a.file.now a.path.now a.x a.places.now) a.x.stage.inputs.order a.i a.end c.requires.0.from _ c.heading_at-h.ensures.0 (sym c.has_place.ensures ∙ c.if-has_place.false), c.heading_at-h.ensures.1)
