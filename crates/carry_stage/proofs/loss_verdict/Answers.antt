-- What is found, under the number and the object. Assumes nothing.
use Rattle.std.specs.Prelude.{ℕ, Option}
use mathlib.Core.Path.{ap, ◌∙◌}
use Rattle.base_answers.specs.Verdicts.{finding_verdict}
use Rattle.carry_entries.specs.Carried.{LOST_ENTRY}
use Rattle.carry_stage.proofs.loss_verdict.Goals as goal

pub returns : goal.returns
returns c =
    let args = c.args in
    c.finding_verdict.ensures ∙ ap (λ (f : Option ℕ). finding_verdict LOST_ENTRY args.object f) c.loss_fault-found.ensures
