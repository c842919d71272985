-- A debug section has a place and C's bytes, and moves to its place; no other section moves. Assumes nothing.
use Rattle.write_merged.proofs.Plans.{debug_placed, fails_is, fails_still}
use Rattle.write_merged.proofs.Merged.{held_headed, debug_below, debug_content, sum_fits, start_fits}
use Rattle.write_planned.specs.Held.{held_plan}
use native.Mathlib.Omega.{arith}
use mathlib.Core.Path.{◌∙◌}
use Rattle.write_merged.proofs.merged_fails.Goals as goal

pub heading_at-h-requires : goal.heading_at-h-requires
heading_at-h-requires c = (c.requires.ready, c.requires.below)

pub contents_of-content-requires : goal.contents_of-content-requires
contents_of-content-requires c =
    let a = c.args in
    let s = c.requires in
    (held_headed a.compiled.now a.assembled.now a.file.now a.path.now a.x a.table.now a.places.now a.steps.now a.index.now s.ready, debug_below a.compiled.now a.assembled.now a.file.now a.path.now a.x a.table.now a.places.now a.steps.now a.index.now s.ready a.i s.below _ c.heading_at-h.ensures.0 c.if-h-eq-SHT_MIPS_DEBUG.true)

pub aligned_to-start-requires : goal.aligned_to-start-requires
aligned_to-start-requires c =
    let a = c.args in
    let s = c.requires in
    omega (arith, sum_fits a.compiled.now a.assembled.now a.file.now a.path.now a.x a.table.now a.places.now a.steps.now a.index.now s.ready a.i a.end s.below s.from _ c.heading_at-h.ensures.0)

pub overflow_cast-start : goal.overflow_cast-start
overflow_cast-start c =
    let a = c.args in
    let s = c.requires in
    let high = start_fits a.compiled.now a.assembled.now a.file.now a.path.now a.x a.table.now a.places.now a.steps.now a.index.now s.ready a.i a.end s.below s.from _ c.heading_at-h.ensures.0 (debug_placed _ c.if-h-eq-SHT_MIPS_DEBUG.true) in
    record { fits = omega (arith, high, c.aligned_to-start.ensures) }

pub returns-then-h-eq-SHT_MIPS_DEBUG : goal.returns-then-h-eq-SHT_MIPS_DEBUG
returns-then-h-eq-SHT_MIPS_DEBUG c =
    let a = c.args in
    let s = c.requires in
    let is = c.heading_at-h.ensures.0 in
    let held = c.contents_of-content.ensures ∙ debug_content a.compiled.now a.assembled.now a.file.now a.path.now a.x a.table.now a.places.now a.steps.now a.index.now s.ready a.i s.below _ is c.if-h-eq-SHT_MIPS_DEBUG.true in (
      c.shift_fails.ensures ∙ fails_is (held_plan a.compiled.now a.assembled.now a.file.now a.path.now a.x a.places.now) a.x.stage.inputs.order a.i a.end s.from _ is _ held _ c.aligned_to-start.ensures (debug_placed _ c.if-h-eq-SHT_MIPS_DEBUG.true),
      c.heading_at-h.ensures.1,
    )

pub returns : goal.returns
returns c =
    let a = c.args in
    (fails_still (held_plan a.compiled.now a.assembled.now a.file.now a.path.now a.x a.places.now) a.x.stage.inputs.order a.i a.end c.requires.from _ c.heading_at-h.ensures.0 c.if-h-eq-SHT_MIPS_DEBUG.false, c.heading_at-h.ensures.1)
