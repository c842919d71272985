-- `merge_missing::is_target` meets its contract: before each turn the search goes on as from the first code. Assumes nothing.
use Rattle.base_lists.proofs.Ranges.{first_next}
use Rattle.base_scope.specs.Codes.{LATE_RODATA}
use Rattle.merge_missing.specs.Missing.{goes_to}
use Rattle.merge_missing.proofs.Ends.{target_here, target_none}
use Prim.Native.Nat.{◌+◌}
use mathlib.Core.Path.{refl, sym, ◌∙◌}
use native.Mathlib.Omega.{arith}
use Rattle.merge_missing.proofs.is_target.Goals as goal

pub loop-code-init : goal.loop-code-init
loop-code-init c = (omega arith, omega arith, refl)

pub returns-then-goes_to : goal.returns-then-goes_to
returns-then-goes_to c =
    let a = c.args in
    let l = c.loop-code in
    target_here a.order a.assembled.now a.target l.code l.invariant.0 c.loop-code-test.true (sym c.goes_to.ensures ∙ c.if-goes_to.true)

pub loop-code-preserved : goal.loop-code-preserved
loop-code-preserved c =
    let a = c.args in
    let l = c.loop-code in
    (omega (arith, l.invariant.0), omega (arith, c.loop-code-test.true), l.invariant.2 ∙ first_next (goes_to a.order a.assembled.now a.target) l.code (LATE_RODATA + 1) (omega (arith, c.loop-code-test.true)) (sym c.goes_to.ensures ∙ c.if-goes_to.false))

pub returns : goal.returns
returns c =
    let a = c.args in
    let l = c.loop-code in
    target_none a.order a.assembled.now a.target l.code c.loop-code-test.false l.invariant.2
