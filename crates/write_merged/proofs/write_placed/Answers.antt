-- Zeros, the bytes, and their move stand behind one another. Assumes nothing.
use Rattle.write_merged.proofs.Plans.{start_behind, next_is, written_room, written_fine, written_step}
use Rattle.write_merged.proofs.Merged.{held_content, start_fits}
use Rattle.write_planned.specs.Held.{held_plan}
use native.Mathlib.Omega.{arith}
use mathlib.Core.Path.{sym, refl}
use Rattle.write_merged.proofs.write_placed.Goals as goal

pub write_gap-requires : goal.write_gap-requires
write_gap-requires c =
    let a = c.args in
    let p = c.requires in
    let e = next_is (held_plan a.compiled.now a.assembled.now a.file.now a.path.now a.x a.places.now) a.x.stage.inputs.order a.i a.end p.0.from a.h p.1 _ refl a.start p.3 p.2 in
    (omega (arith, p.3, start_behind (held_plan a.compiled.now a.assembled.now a.file.now a.path.now a.x a.places.now) a.x.stage.inputs.order a.i a.end p.0.from a.h p.1), omega (arith, e, p.5))

pub append_planned-next-requires : goal.append_planned-next-requires
append_planned-next-requires c =
    let a = c.args in
    let p = c.requires in
    let high = start_fits a.compiled.now a.assembled.now a.file.now a.path.now a.x a.table.now a.places.now a.steps.now a.index.now p.0.ready a.i a.end p.0.below p.0.from a.h p.1 p.2 in
    (p.0.ready.held, omega (arith, p.3, high))

pub overflow_sub-next : goal.overflow_sub-next
overflow_sub-next c = omega (arith, c.append_planned-next.ensures.0.end)

pub overflow_cast-start : goal.overflow_cast-start
overflow_cast-start c =
    let a = c.args in
    let p = c.requires in
    let high = start_fits a.compiled.now a.assembled.now a.file.now a.path.now a.x a.table.now a.places.now a.steps.now a.index.now p.0.ready a.i a.end p.0.below p.0.from a.h p.1 p.2 in
    record { fits = omega (arith, p.3, high) }

pub move_section-requires : goal.move_section-requires
move_section-requires c =
    let a = c.args in
    let p = c.requires in
    let held = sym (held_content a.compiled.now a.assembled.now a.file.now a.path.now a.x a.table.now a.places.now a.steps.now a.index.now p.0.ready a.i) in
    let w = c.append_planned-next.ensures.0 in
    let room = written_room (held_plan a.compiled.now a.assembled.now a.file.now a.path.now a.x a.places.now) a.x.stage.inputs.order a.i a.end p.0.from a.h p.1 _ held a.start p.3 p.2 a.out.now _ _ _ p.4 p.5 c.write_gap.ensures w in
    let fine = written_fine (held_plan a.compiled.now a.assembled.now a.file.now a.path.now a.x a.places.now) a.x.stage.inputs.order a.i a.end p.0.from a.h p.1 _ held a.start p.3 p.2 a.out.now _ _ _ p.4 p.5 c.write_gap.ensures w in
    (omega (arith, room, w.end, w.long, c.write_gap.auto.out), fine)

pub returns : goal.returns
returns c =
    let a = c.args in
    let p = c.requires in
    let held = sym (held_content a.compiled.now a.assembled.now a.file.now a.path.now a.x a.table.now a.places.now a.steps.now a.index.now p.0.ready a.i) in
    let w = c.append_planned-next.ensures.0 in
    written_step (held_plan a.compiled.now a.assembled.now a.file.now a.path.now a.x a.places.now) a.x.stage.inputs.order a.i a.end p.0.from a.h p.1 _ held a.start p.3 p.2 a.out.now _ _ _ p.4 p.5 c.write_gap.ensures w _ _ _ c.move_section.ensures c.append_planned-next.ensures.2
