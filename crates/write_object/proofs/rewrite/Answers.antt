-- The answer stands; then the output past the object is zeroed. Assumes nothing.
use Rattle.base_answers.proofs.Answered.{length_inside, answered_output}
use mathlib.Core.Path.{◌∙◌}
use Rattle.write_object.proofs.rewrite.Goals as goal

pub zero_from-requires : goal.zero_from-requires
zero_from-requires c = length_inside _ _ _ _ c.rewrite_answer-r.ensures

pub returns : goal.returns
returns c =
    let w = c.rewrite_answer-r.ensures in
    record { outcome = w.outcome; output = c.zero_from.ensures ∙ answered_output _ _ _ _ w }
