-- A search for a section that cannot move: none before i is one. Assumes nothing.
use Rattle.write_merged.proofs.Plans.{plan_first, fault_here, fault_next, fault_none}
use Rattle.write_merged.proofs.Merged.{spans_same, spans_then, ready_still, total_is, total_few}
use Rattle.write_planned.specs.Held.{held_plan}
use native.Mathlib.Omega.{arith}
use mathlib.Core.Path.{refl, sym, ◌∙◌}
use Rattle.write_merged.proofs.moved_fault.Goals as goal

pub section_total-n-requires : goal.section_total-n-requires
section_total-n-requires c =
    let a = c.args in
    total_few a.compiled.now a.assembled.now a.file.now a.path.now a.x a.table.now a.places.now a.steps.now a.index.now c.requires.0

pub loop-i-init : goal.loop-i-init
loop-i-init c =
    let a = c.args in
    (omega arith, plan_first (held_plan a.compiled.now a.assembled.now a.file.now a.path.now a.x a.places.now) a.x.stage.inputs.order, spans_same a.index.now, refl)

pub merged_fails-requires : goal.merged_fails-requires
merged_fails-requires c =
    let a = c.args in
    let l = c.loop-i in
    record {
      ready = ready_still a.compiled.now a.assembled.now a.file.now a.path.now a.x a.table.now a.places.now a.steps.now a.index.now c.requires.0 l.index l.invariant.2;
      below = omega (arith, c.loop-i-test.true, c.section_total-n.ensures, total_is a.compiled.now a.assembled.now a.file.now a.path.now a.x a.table.now a.places.now a.steps.now a.index.now c.requires.0);
      from = l.invariant.1;
    }

pub returns-then-merged_fails : goal.returns-then-merged_fails
returns-then-merged_fails c =
    let a = c.args in
    let l = c.loop-i in
    let n = c.section_total-n.ensures ∙ total_is a.compiled.now a.assembled.now a.file.now a.path.now a.x a.table.now a.places.now a.steps.now a.index.now c.requires.0 in (
      fault_here (held_plan a.compiled.now a.assembled.now a.file.now a.path.now a.x a.places.now) a.x.stage.inputs.order l.i _ n l.invariant.3 c.loop-i-test.true (sym c.merged_fails.ensures.0 ∙ c.if-merged_fails.true),
      spans_then _ _ _ l.invariant.2 c.merged_fails.ensures.1,
    )

pub merged_after-end-requires : goal.merged_after-end-requires
merged_after-end-requires c =
    let a = c.args in
    let l = c.loop-i in (
      record {
        ready = ready_still a.compiled.now a.assembled.now a.file.now a.path.now a.x a.table.now a.places.now a.steps.now a.index.now c.requires.0 _ (spans_then _ _ _ l.invariant.2 c.merged_fails.ensures.1);
        below = omega (arith, c.loop-i-test.true, c.section_total-n.ensures, total_is a.compiled.now a.assembled.now a.file.now a.path.now a.x a.table.now a.places.now a.steps.now a.index.now c.requires.0);
        from = l.invariant.1;
      },
      c.requires.1,
    )

pub loop-i-preserved : goal.loop-i-preserved
loop-i-preserved c =
    let a = c.args in
    let l = c.loop-i in
    let n = c.section_total-n.ensures ∙ total_is a.compiled.now a.assembled.now a.file.now a.path.now a.x a.table.now a.places.now a.steps.now a.index.now c.requires.0 in (
      omega arith,
      c.merged_after-end.ensures.0,
      spans_then _ _ _ (spans_then _ _ _ l.invariant.2 c.merged_fails.ensures.1) c.merged_after-end.ensures.1,
      fault_next (held_plan a.compiled.now a.assembled.now a.file.now a.path.now a.x a.places.now) a.x.stage.inputs.order l.i _ n l.invariant.3 c.loop-i-test.true (sym c.merged_fails.ensures.0 ∙ c.if-merged_fails.false),
    )

pub returns : goal.returns
returns c =
    let a = c.args in
    let l = c.loop-i in
    let n = c.section_total-n.ensures ∙ total_is a.compiled.now a.assembled.now a.file.now a.path.now a.x a.table.now a.places.now a.steps.now a.index.now c.requires.0 in
    (fault_none (held_plan a.compiled.now a.assembled.now a.file.now a.path.now a.x a.places.now) a.x.stage.inputs.order l.i _ n l.invariant.3 (omega (arith, c.loop-i-test.false)), l.invariant.2)
