-- `merge_missing::missing_in_a` meets its contract: before each turn the search goes on as from the first code. Assumes nothing.
use Rattle.base_lists.proofs.Ranges.{first_next}
use Rattle.base_scope.specs.Codes.{CODES}
use Rattle.merge_missing.specs.Ends.{lacking_by, missing_by}
use Rattle.merge_missing.proofs.Ends.{lowest_here, lowest_none}
use Prim.Native.Nat.{◌+◌}
use mathlib.Core.Path.{refl, sym, ap, ◌∙◌}
use mathlib.Core.Bool.{Bool}
use lib.ListN.{get_or}
use native.Mathlib.Omega.{arith}
use Rattle.merge_missing.proofs.missing_in_a.Goals as goal

pub loop-code-init : goal.loop-code-init
loop-code-init c = (omega arith, omega arith, refl)

pub returns-then-is_lacking : goal.returns-then-is_lacking
unfolding missing_by
returns-then-is_lacking c =
    let a = c.args in
    let l = c.loop-code in
    lowest_here (missing_by a.inputs.order a.assembled.now a.inputs.compiled a.ends a.late) l.code l.invariant.2 c.loop-code-test.true (ap (λ (x : Bool). lacking_by a.inputs.order a.assembled.now (get_or a.ends l.code 0) x l.code) (sym c.is_asked_a-asked.ensures) ∙ sym c.is_lacking.ensures ∙ c.if-is_lacking.true)

pub loop-code-preserved : goal.loop-code-preserved
unfolding missing_by
loop-code-preserved c =
    let a = c.args in
    let l = c.loop-code in
    (omega (arith, l.invariant.0), omega (arith, c.loop-code-test.true), l.invariant.2 ∙ first_next (missing_by a.inputs.order a.assembled.now a.inputs.compiled a.ends a.late) l.code (CODES + 1) (omega (arith, c.loop-code-test.true)) (ap (λ (x : Bool). lacking_by a.inputs.order a.assembled.now (get_or a.ends l.code 0) x l.code) (sym c.is_asked_a-asked.ensures) ∙ sym c.is_lacking.ensures ∙ c.if-is_lacking.false))

pub returns : goal.returns
returns c =
    let a = c.args in
    let l = c.loop-code in
    lowest_none (missing_by a.inputs.order a.assembled.now a.inputs.compiled a.ends a.late) l.code l.invariant.2 c.loop-code-test.false
