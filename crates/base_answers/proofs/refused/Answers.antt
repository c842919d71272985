-- The struct is made field by field as the definition has it. Assumes nothing.
use Rattle.base_answers.specs.Answers.{length_outcome, outcome_of}
use mathlib.Core.Path.{refl}
use Rattle.base_answers.proofs.refused.Goals as goal

pub returns : goal.returns
unfolding length_outcome outcome_of
returns c = refl
