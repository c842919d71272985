-- After i turns the first i section headers are written, one behind the other. Assumes nothing.
use Rattle.write_object.proofs.Own.{own_first}
use Rattle.write_object.proofs.Writing.{headings_start, headings_turn}
use Rattle.write_object.specs.Own.{own_plan}
use Rattle.write_object.specs.Steps.{headings_of}
use Rattle.base_lists.specs.Windows.{spliced}
use native.Mathlib.Omega.{arith}
use Prim.Native.Nat.{ℕ}
use mathlib.Core.Path.{◌≡◌, refl, sym, ap, ◌∙◌}
use Rattle.write_object.proofs.write_own_headings.Goals as goal

pub loop-i-init : goal.loop-i-init
loop-i-init c =
    let a = c.args in
    (omega arith, sym (own_first a.order a.file.now), refl, headings_start (own_plan a.order a.file.now) a.order a.out.now a.at)

pub write_own_heading-end-requires : goal.write_own_heading-end-requires
write_own_heading-end-requires c =
    let l = c.loop-i in
    let n = c.section_count-n.ensures.0 in
    (record { ready = c.requires.0; below = omega (arith, n); from = l.invariant.1 }, omega (arith, n, l.invariant.2, c.requires.1))

pub loop-i-preserved : goal.loop-i-preserved
loop-i-preserved c =
    let a = c.args in
    let l = c.loop-i in
    let w = c.write_own_heading-end in (
      omega arith,
      w.ensures.next,
      w.auto.out ∙ l.invariant.2,
      headings_turn (own_plan a.order a.file.now) a.order a.out.now _ _ a.at l.i (omega (arith, c.section_count-n.ensures.0, c.requires.1)) l.invariant.3 w.ensures.bytes,
    )

pub returns : goal.returns
returns c =
    let a = c.args in
    let l = c.loop-i in
    let e : l.i ≡ c.section_count-n.result = omega arith in
    l.invariant.3 ∙ ap (λ (k : ℕ). spliced a.out.now a.at (headings_of (own_plan a.order a.file.now) a.order k)) (e ∙ c.section_count-n.ensures.0)
