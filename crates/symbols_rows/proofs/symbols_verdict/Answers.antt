-- 18 decides where it refuses, else 19. Assumes nothing.
use Rattle.base_scope.proofs.Refusals.{err_through}
use Rattle.symbols_rows.proofs.Faults.{verdict_18, verdict_19}
use mathlib.Core.Path.{sym, ◌∙◌}
use Rattle.symbols_rows.proofs.symbols_verdict.Goals as goal

pub loose_fault-loose-requires : goal.loose_fault-loose-requires
loose_fault-loose-requires c = λ p h. (c.requires p h).own

pub returns-in_err-finding_verdict : goal.returns-in_err-finding_verdict
returns-in_err-finding_verdict c =
    let a = c.args in
    err_through c.from_residual.ensures.1 ∙ sym c.in_err-finding_verdict.was
    ∙ verdict_18 a.rows.now a.list.now a.holders.now a.m _ c.loose_fault-loose.ensures _ c.finding_verdict.ensures _ _ _ c.in_err-finding_verdict.was

pub returns : goal.returns
returns c =
    let a = c.args in
    verdict_19 a.rows.now a.list.now a.holders.now a.m _ c.loose_fault-loose.ensures _ c.finding_verdict.ensures c.in_ok-finding_verdict.was _ c.elsewhere_fault-twice.ensures _ c.finding_verdict-2.ensures
