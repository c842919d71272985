-- 16 is asked where no symbol is at fault by 15. Assumes nothing.
use Rattle.base_scope.proofs.Refusals.{err_through}
use Rattle.symbols_taken.proofs.Faults.{verdict_homeless, verdict_unmoved}
use mathlib.Core.Path.{sym, ◌∙◌}
use Rattle.symbols_taken.proofs.taken_verdict.Goals as goal

pub returns-in_err-finding_verdict : goal.returns-in_err-finding_verdict
returns-in_err-finding_verdict c =
    let a = c.args in
    err_through c.from_residual.ensures.1 ∙ sym c.in_err-finding_verdict.was
    ∙ verdict_homeless a.inputs.compiled a.inputs.assembled a.inputs.order a.assembled.now a.step.runs a.late.now a.inputs.blocks _ c.homeless_fault-homeless.ensures _ c.finding_verdict.ensures _ _ _ c.in_err-finding_verdict.was

pub returns : goal.returns
returns c =
    let a = c.args in
    verdict_unmoved a.inputs.compiled a.inputs.assembled a.inputs.order a.assembled.now a.step.runs a.late.now a.inputs.blocks _ c.homeless_fault-homeless.ensures _ c.finding_verdict.ensures c.in_ok-finding_verdict.was _ c.unmoved_fault-unmoved.ensures _ c.finding_verdict-2.ensures
