-- The lowest mistyped section of the codes tried so far is kept. Assumes nothing.
use Rattle.base_lists.specs.Ranges.{least}
use Rattle.base_lists.proofs.Ranges.{least_zero, least_next}
use Rattle.base_scope.specs.Refusals.{found_below}
use Rattle.elf_sections.specs.Names.{coded_after, mistyped, type_fault}
use native.Mathlib.Omega.{arith}
use Prim.Native.Nat.{ℕ, min}
use mathlib.Core.Path.{◌≡◌, sym, ap, ◌∙◌}
use mathlib.Core.Bool.{cond}
use Rattle.elf_sections.proofs.type_fault.Goals as goal

pub loop-i-init : goal.loop-i-init
loop-i-init c =
    let a = c.args in
    sym (least_zero (coded_after a.order a.file.now) (mistyped a.order a.file.now) c.section_count-n.result)

pub loop-i-preserved : goal.loop-i-preserved
loop-i-preserved c =
    let a = c.args in
    let l = c.loop-i in
    let v = coded_after a.order a.file.now in
    let p = mistyped a.order a.file.now in
    c.lower_mistyped-lowest.ensures ∙ ap (λ (x : ℕ). cond (p l.i) (min (v l.i) x) x) l.invariant ∙ sym (least_next v p c.section_count-n.result l.i)

pub returns : goal.returns
unfolding type_fault
returns c =
    let a = c.args in
    let l = c.loop-i in
    let v = coded_after a.order a.file.now in
    let p = mistyped a.order a.file.now in
    let e : l.i ≡ 6 = omega arith in
    c.found_below.ensures ∙ ap (found_below _) (l.invariant ∙ ap (least v p _) e) ∙ ap (λ (n : ℕ). found_below n (least v p n 6)) c.section_count-n.ensures.0
