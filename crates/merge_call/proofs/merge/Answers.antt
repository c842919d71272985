-- The answer is as all the stages left it; then the output past the result and the working buffers are zeroed. Assumes nothing.
use mathlib.Core.Path.{ap, ◌∙◌}
use Rattle.base_answers.proofs.Answered.{length_inside}
use Rattle.base_buffers.specs.Buffers.{zeros}
use Rattle.merge_call.proofs.Stages.{merged_of}
use Rattle.merge_call.proofs.merge.Goals as goal

pub zero_from-requires : goal.zero_from-requires
zero_from-requires c =
    let merge-answer = c.merge_answer-r in
    length_inside _ _ _ _ merge-answer.ensures

pub returns : goal.returns
returns c =
    let merge-answer = c.merge_answer-r in
    let zero-from = c.zero_from in
    let zero = c.zero in
    let zero2 = c.zero-2 in
    let zero3 = c.zero-3 in
    let zero4 = c.zero-4 in
    merged_of _ _ _ _ _ _ _ _ _ _ _ _ _ merge-answer.ensures zero-from.ensures (zero.ensures ∙ ap zeros merge-answer.auto.table) (zero2.ensures ∙ ap zeros merge-answer.auto.places) (zero3.ensures ∙ ap zeros merge-answer.auto.steps) (zero4.ensures ∙ ap zeros merge-answer.auto.index)
