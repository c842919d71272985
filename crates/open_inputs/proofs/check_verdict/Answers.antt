-- The two arms are the two cases of `check_verdict`. Assumes nothing.
use Rattle.open_inputs.proofs.Order.{check_accepted, check_faulty}
use mathlib.Core.Path.{sym, ◌∙◌}
use Rattle.open_inputs.proofs.check_verdict.Goals as goal

pub returns-in-Ok : goal.returns-in-Ok
returns-in-Ok c = check_accepted _ _ (sym c.check.ensures ∙ c.in-Ok.is)

pub returns-in-Err : goal.returns-in-Err
returns-in-Err c = check_faulty _ _ _ _ (sym c.check.ensures ∙ c.in-Err.is)
