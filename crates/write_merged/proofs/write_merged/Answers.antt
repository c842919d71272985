-- The four writes stand behind one another. Assumes nothing.
use Rattle.write_merged.proofs.Plans.{plan_behind, plan_image, plan_room}
use Rattle.write_merged.proofs.Merged.{spans_then, ready_still, held_fits, held_many, held_headed, held_put}
use Rattle.write_planned.specs.Held.{held_plan}
use native.Mathlib.Omega.{arith}
use Rattle.write_merged.proofs.write_merged.Goals as goal

pub overflow_cast-at : goal.overflow_cast-at
overflow_cast-at c =
    let a = c.args in
    let p = c.requires in
    record { fits = omega (arith, p.4, plan_image (held_plan a.compiled.now a.assembled.now a.file.now a.path.now a.x a.places.now) a.x.stage.inputs.order, held_fits a.compiled.now a.assembled.now a.file.now a.path.now a.x a.table.now a.places.now a.steps.now a.index.now p.0) }

pub overflow_cast-many : goal.overflow_cast-many
overflow_cast-many c =
    let a = c.args in
    let p = c.requires in
    record { fits = omega (arith, p.5, held_many a.compiled.now a.assembled.now a.file.now a.path.now a.x a.table.now a.places.now a.steps.now a.index.now p.0) }

pub write_front-requires : goal.write_front-requires
write_front-requires c =
    let a = c.args in
    let p = c.requires in
    ((held_headed a.compiled.now a.assembled.now a.file.now a.path.now a.x a.table.now a.places.now a.steps.now a.index.now p.0).whole, (plan_room (held_plan a.compiled.now a.assembled.now a.file.now a.path.now a.x a.places.now) a.x.stage.inputs.order _ p.6).0, omega (arith, p.5, held_many a.compiled.now a.assembled.now a.file.now a.path.now a.x a.table.now a.places.now a.steps.now a.index.now p.0))

pub write_merged_sections-requires : goal.write_merged_sections-requires
write_merged_sections-requires c =
    let a = c.args in
    let p = c.requires in
    (p.0, p.2, omega (arith, (plan_room (held_plan a.compiled.now a.assembled.now a.file.now a.path.now a.x a.places.now) a.x.stage.inputs.order _ p.6).1, c.write_front.auto.out))

pub write_gap-requires : goal.write_gap-requires
write_gap-requires c =
    let a = c.args in
    let p = c.requires in
    let r = plan_room (held_plan a.compiled.now a.assembled.now a.file.now a.path.now a.x a.places.now) a.x.stage.inputs.order _ p.6 in
    (omega (arith, p.3, p.4, plan_behind (held_plan a.compiled.now a.assembled.now a.file.now a.path.now a.x a.places.now) a.x.stage.inputs.order), omega (arith, p.4, r.2, c.write_front.auto.out, c.write_merged_sections.auto.out))

pub write_merged_headings-requires : goal.write_merged_headings-requires
write_merged_headings-requires c =
    let a = c.args in
    let p = c.requires in
    let r = plan_room (held_plan a.compiled.now a.assembled.now a.file.now a.path.now a.x a.places.now) a.x.stage.inputs.order _ p.6 in (
      ready_still a.compiled.now a.assembled.now a.file.now a.path.now a.x a.table.now a.places.now a.steps.now a.index.now p.0 _ c.write_merged_sections.ensures.1,
      p.1,
      omega (arith, p.4, r.2, c.write_front.auto.out, c.write_merged_sections.auto.out, c.write_gap.auto.out),
    )

pub returns : goal.returns
returns c =
    let a = c.args in
    let p = c.requires in (
      held_put a.compiled.now a.assembled.now a.file.now a.path.now a.x a.table.now a.places.now a.steps.now a.index.now p.0 p.2 a.out.now _ _ _ _ a.end a.at a.many p.3 p.4 p.5 p.6 c.write_front.ensures c.write_merged_sections.ensures.0 c.write_gap.ensures c.write_merged_headings.ensures.0,
      spans_then _ _ _ c.write_merged_sections.ensures.1 c.write_merged_headings.ensures.1,
    )
