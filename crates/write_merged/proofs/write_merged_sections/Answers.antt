-- After i turns the first i sections that have a place are written, one behind the other. Assumes nothing.
use Rattle.write_merged.proofs.Plans.{plan_first, plan_mono, plan_turn}
use Rattle.write_merged.proofs.Merged.{spans_same, spans_then, ready_still, total_is, total_few}
use Rattle.write_object.specs.Steps.{pieces_of}
use Rattle.write_object.proofs.Content.{none_fails}
use Rattle.write_object.proofs.Writing.{pieces_start}
use Rattle.write_planned.specs.Held.{held_plan}
use Rattle.write_image.specs.Layout.{HEADER_END}
use Rattle.base_lists.specs.Windows.{spliced}
use native.Mathlib.Omega.{arith}
use Prim.Native.Nat.{ℕ, ◌+◌}
use mathlib.Core.Path.{◌≡◌, refl, ap, ◌∙◌}
use Rattle.write_merged.proofs.write_merged_sections.Goals as goal

pub section_total-n-requires : goal.section_total-n-requires
section_total-n-requires c =
    let a = c.args in
    total_few a.compiled.now a.assembled.now a.file.now a.path.now a.x a.table.now a.places.now a.steps.now a.index.now c.requires.0

pub loop-i-init : goal.loop-i-init
loop-i-init c =
    let a = c.args in
    (omega arith, plan_first (held_plan a.compiled.now a.assembled.now a.file.now a.path.now a.x a.places.now) a.x.stage.inputs.order, spans_same a.index.now, refl, pieces_start (held_plan a.compiled.now a.assembled.now a.file.now a.path.now a.x a.places.now) a.x.stage.inputs.order a.out.now)

pub write_merged_section-end-requires : goal.write_merged_section-end-requires
write_merged_section-end-requires c =
    let a = c.args in
    let l = c.loop-i in
    let p = c.requires in (
      record { ready = ready_still a.compiled.now a.assembled.now a.file.now a.path.now a.x a.table.now a.places.now a.steps.now a.index.now p.0 l.index l.invariant.2; below = omega (arith, c.loop-i-test.true, c.section_total-n.ensures, total_is a.compiled.now a.assembled.now a.file.now a.path.now a.x a.table.now a.places.now a.steps.now a.index.now p.0); from = l.invariant.1 },
      none_fails (held_plan a.compiled.now a.assembled.now a.file.now a.path.now a.x a.places.now) a.x.stage.inputs.order p.1 l.i (omega (arith, c.loop-i-test.true, c.section_total-n.ensures, total_is a.compiled.now a.assembled.now a.file.now a.path.now a.x a.table.now a.places.now a.steps.now a.index.now p.0)),
      omega (arith, l.invariant.3, p.2, plan_mono (held_plan a.compiled.now a.assembled.now a.file.now a.path.now a.x a.places.now) a.x.stage.inputs.order (l.i + 1) (held_plan a.compiled.now a.assembled.now a.file.now a.path.now a.x a.places.now).many (omega (arith, c.loop-i-test.true, c.section_total-n.ensures, total_is a.compiled.now a.assembled.now a.file.now a.path.now a.x a.table.now a.places.now a.steps.now a.index.now p.0))),
    )

pub loop-i-preserved : goal.loop-i-preserved
loop-i-preserved c =
    let a = c.args in
    let l = c.loop-i in
    let p = c.requires in
    let w = c.write_merged_section-end in (
      omega (arith, c.loop-i-test.true),
      w.ensures.next,
      spans_then _ _ _ l.invariant.2 w.ensures.spans,
      w.auto.out ∙ l.invariant.3,
      plan_turn (held_plan a.compiled.now a.assembled.now a.file.now a.path.now a.x a.places.now) a.x.stage.inputs.order p.1 a.out.now _ _ l.i l.end (omega (arith, c.loop-i-test.true, c.section_total-n.ensures, total_is a.compiled.now a.assembled.now a.file.now a.path.now a.x a.table.now a.places.now a.steps.now a.index.now p.0)) l.invariant.1 p.2 l.invariant.4 w.ensures.bytes,
    )

pub returns : goal.returns
returns c =
    let a = c.args in
    let l = c.loop-i in
    let e : l.i ≡ (held_plan a.compiled.now a.assembled.now a.file.now a.path.now a.x a.places.now).many = omega (arith, l.invariant.0, c.loop-i-test.false, c.section_total-n.ensures, total_is a.compiled.now a.assembled.now a.file.now a.path.now a.x a.table.now a.places.now a.steps.now a.index.now c.requires.0) in
    (l.invariant.4 ∙ ap (λ (k : ℕ). spliced a.out.now HEADER_END (pieces_of (held_plan a.compiled.now a.assembled.now a.file.now a.path.now a.x a.places.now) a.x.stage.inputs.order k)) e, l.invariant.2)
