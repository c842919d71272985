-- The two arms are the two cases of `finding_verdict`. Assumes nothing.
use Rattle.base_answers.proofs.Verdicts.{finding_clear, finding_at}
use mathlib.Core.Path.{sym}
use Rattle.base_answers.proofs.finding_verdict.Goals as goal

pub returns-in-None : goal.returns-in-None
returns-in-None c = sym (finding_clear _ _ _ c.in-None.is)

pub returns-in-Some : goal.returns-in-Some
returns-in-Some c = sym (finding_at _ _ _ _ c.in-Some.is)
