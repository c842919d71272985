-- After i turns it is where the first i sections end. Assumes nothing.
use Rattle.write_merged.proofs.Plans.{plan_first}
use Rattle.write_merged.proofs.Merged.{spans_same, spans_then, ready_still, total_is, total_few}
use Rattle.write_merged.specs.Merged.{plan_end}
use Rattle.write_planned.specs.Held.{held_plan}
use native.Mathlib.Omega.{arith}
use mathlib.Core.Path.{◌≡◌, ap, ◌∙◌}
use Rattle.write_merged.proofs.merged_end.Goals as goal

pub section_total-n-requires : goal.section_total-n-requires
section_total-n-requires c =
    let a = c.args in
    total_few a.compiled.now a.assembled.now a.file.now a.path.now a.x a.table.now a.places.now a.steps.now a.index.now c.requires.0

pub loop-i-init : goal.loop-i-init
loop-i-init c =
    let a = c.args in
    (omega arith, plan_first (held_plan a.compiled.now a.assembled.now a.file.now a.path.now a.x a.places.now) a.x.stage.inputs.order, spans_same a.index.now)

pub merged_after-end-requires : goal.merged_after-end-requires
merged_after-end-requires c =
    let a = c.args in
    let l = c.loop-i in (
      record {
        ready = ready_still a.compiled.now a.assembled.now a.file.now a.path.now a.x a.table.now a.places.now a.steps.now a.index.now c.requires.0 l.index l.invariant.2;
        below = omega (arith, c.loop-i-test.true, c.section_total-n.ensures, total_is a.compiled.now a.assembled.now a.file.now a.path.now a.x a.table.now a.places.now a.steps.now a.index.now c.requires.0);
        from = l.invariant.1;
      },
      c.requires.1,
    )

pub loop-i-preserved : goal.loop-i-preserved
loop-i-preserved c = (omega arith, c.merged_after-end.ensures.0, spans_then _ _ _ c.loop-i.invariant.2 c.merged_after-end.ensures.1)

pub returns : goal.returns
returns c =
    let a = c.args in
    let l = c.loop-i in
    let e : l.i ≡ (held_plan a.compiled.now a.assembled.now a.file.now a.path.now a.x a.places.now).many = omega (arith, l.invariant.0, c.loop-i-test.false, c.section_total-n.ensures, total_is a.compiled.now a.assembled.now a.file.now a.path.now a.x a.table.now a.places.now a.steps.now a.index.now c.requires.0) in
    (l.invariant.1 ∙ ap (plan_end (held_plan a.compiled.now a.assembled.now a.file.now a.path.now a.x a.places.now)) e, l.invariant.2)
