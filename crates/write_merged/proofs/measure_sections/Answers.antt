-- After i turns the sizes of the first i sections are noted. Assumes nothing.
use Rattle.write_merged.proofs.Plans.{sized_none, sized_more, sized_all}
use Rattle.write_merged.proofs.Merged.{spans_same, spans_then, ready_still, total_is, total_few}
use Rattle.write_planned.specs.Held.{held_plan}
use native.Mathlib.Omega.{arith}
use Prim.Native.Nat.{◌<◌}
use mathlib.Core.Path.{◌≡◌, refl, ◌∙◌}
use lib.ListN.{length, length-set}
use Rattle.write_merged.proofs.measure_sections.Goals as goal

pub section_total-n-requires : goal.section_total-n-requires
section_total-n-requires c =
    let a = c.args in
    total_few a.compiled.now a.assembled.now a.file.now a.path.now a.x a.table.now a.places.now a.steps.now a.index.now c.requires.0

pub loop-i-init : goal.loop-i-init
loop-i-init c =
    let a = c.args in
    (omega arith, refl, spans_same a.index.now, sized_none (held_plan a.compiled.now a.assembled.now a.file.now a.path.now a.x a.places.now) a.sizes.now)

pub measure_section-size-requires : goal.measure_section-size-requires
measure_section-size-requires c =
    let a = c.args in
    let l = c.loop-i in
    (ready_still a.compiled.now a.assembled.now a.file.now a.path.now a.x a.table.now a.places.now a.steps.now a.index.now c.requires.0 l.index l.invariant.2, omega (arith, c.loop-i-test.true, c.section_total-n.ensures, total_is a.compiled.now a.assembled.now a.file.now a.path.now a.x a.table.now a.places.now a.steps.now a.index.now c.requires.0))

pub offset_bounds-sizes-i : goal.offset_bounds-sizes-i
offset_bounds-sizes-i c =
    let a = c.args in
    omega (arith, c.loop-i-test.true, c.section_total-n.ensures, total_few a.compiled.now a.assembled.now a.file.now a.path.now a.x a.table.now a.places.now a.steps.now a.index.now c.requires.0)

pub bounds-sizes-i : goal.bounds-sizes-i
bounds-sizes-i c =
    let a = c.args in
    omega (arith, c.loop-i-test.true, c.section_total-n.ensures, total_few a.compiled.now a.assembled.now a.file.now a.path.now a.x a.table.now a.places.now a.steps.now a.index.now c.requires.0, c.loop-i.invariant.1, c.requires.1)

pub loop-i-preserved : goal.loop-i-preserved
loop-i-preserved c =
    let a = c.args in
    let l = c.loop-i in
    let m = c.measure_section-size in
    let h : l.i < length l.sizes = omega (arith, c.loop-i-test.true, c.section_total-n.ensures, total_few a.compiled.now a.assembled.now a.file.now a.path.now a.x a.table.now a.places.now a.steps.now a.index.now c.requires.0, l.invariant.1, c.requires.1) in (
      omega (arith, c.loop-i-test.true),
      length-set l.sizes l.i m.result ∙ l.invariant.1,
      spans_then _ _ _ l.invariant.2 m.ensures.1,
      sized_more (held_plan a.compiled.now a.assembled.now a.file.now a.path.now a.x a.places.now) l.i m.result l.sizes h m.ensures.0 l.invariant.3,
    )

pub returns : goal.returns
returns c =
    let a = c.args in
    let l = c.loop-i in
    let e : l.i ≡ (held_plan a.compiled.now a.assembled.now a.file.now a.path.now a.x a.places.now).many = omega (arith, l.invariant.0, c.loop-i-test.false, c.section_total-n.ensures, total_is a.compiled.now a.assembled.now a.file.now a.path.now a.x a.table.now a.places.now a.steps.now a.index.now c.requires.0) in
    (sized_all (held_plan a.compiled.now a.assembled.now a.file.now a.path.now a.x a.places.now) l.i l.sizes e l.invariant.3, l.invariant.2)
