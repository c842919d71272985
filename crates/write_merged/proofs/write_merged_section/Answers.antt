-- A section with a place is written behind its zeros; one without a place leaves the output as it was. Assumes nothing.
use Rattle.write_merged.proofs.Plans.{section_still}
use Rattle.write_merged.proofs.Merged.{spans_then, ready_still, sum_fits}
use Rattle.write_planned.specs.Held.{held_plan}
use native.Mathlib.Omega.{arith}
use mathlib.Core.Path.{sym, ◌∙◌}
use Rattle.write_merged.proofs.write_merged_section.Goals as goal

pub heading_at-h-requires : goal.heading_at-h-requires
heading_at-h-requires c = (c.requires.0.ready, c.requires.0.below)

pub aligned_to-start-requires : goal.aligned_to-start-requires
aligned_to-start-requires c =
    let a = c.args in
    let s = c.requires.0 in
    omega (arith, sum_fits a.compiled.now a.assembled.now a.file.now a.path.now a.x a.table.now a.places.now a.steps.now a.index.now s.ready a.i a.end s.below s.from _ c.heading_at-h.ensures.0)

pub write_placed-requires : goal.write_placed-requires
write_placed-requires c =
    let a = c.args in
    let p = c.requires in (
      record { ready = ready_still a.compiled.now a.assembled.now a.file.now a.path.now a.x a.table.now a.places.now a.steps.now a.index.now p.0.ready _ c.heading_at-h.ensures.1; below = p.0.below; from = p.0.from },
      c.heading_at-h.ensures.0,
      sym c.has_place.ensures ∙ c.if-has_place.true,
      c.aligned_to-start.ensures,
      p.1,
      p.2,
    )

pub returns-then-has_place : goal.returns-then-has_place
returns-then-has_place c =
    let w = c.write_placed.ensures in
    record { next = w.next; bytes = w.bytes; spans = spans_then _ _ _ c.heading_at-h.ensures.1 w.spans }

pub returns : goal.returns
returns c =
    let a = c.args in
    section_still (held_plan a.compiled.now a.assembled.now a.file.now a.path.now a.x a.places.now) a.x.stage.inputs.order a.i a.end c.requires.0.from _ c.heading_at-h.ensures.0 (sym c.has_place.ensures ∙ c.if-has_place.false) a.out.now _ _ c.heading_at-h.ensures.1
