-- The answer stands; then the output past the result and the working buffers are zeroed. Assumes nothing.
use Rattle.base_buffers.specs.Buffers.{zeros}
use Rattle.base_answers.proofs.Answered.{length_inside}
use Rattle.draft_call.proofs.Drafted.{drafted}
use mathlib.Core.Path.{ap, ◌∙◌}
use Rattle.draft_call.proofs.draft.Goals as goal

pub zero_from-requires : goal.zero_from-requires
zero_from-requires c = length_inside _ _ _ _ c.draft_answer-r.ensures

pub returns : goal.returns
returns c =
    drafted _ _ _ _ _ _ _ _ _ c.draft_answer-r.ensures c.zero_from.ensures (c.zero.ensures ∙ ap zeros c.draft_answer-r.auto.table) (c.zero-2.ensures ∙ ap zeros c.draft_answer-r.auto.places)
