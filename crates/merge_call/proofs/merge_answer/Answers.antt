-- Refusal 1, then the inputs, then the stages behind them. Assumes nothing.
use mathlib.Core.Path.{refl, sym, ◌∙◌}
use Rattle.base_answers.proofs.Answered.{answered_as, answered_refused}
use Rattle.merge_inputs.proofs.Reading.{took_sound, inputs_read}
use Rattle.merge_verdict.proofs.Limits.{path_short, merge_limits}
use Rattle.merge_verdict.proofs.Accepted.{verdict_over, verdict_refused, verdict_stages}
use Rattle.merge_call.proofs.merge_answer.Goals as goal

pub returns-then-breaks_limits : goal.returns-then-breaks_limits
returns-then-breaks_limits c =
    let args = c.args in
    let breaks-limits = c.breaks_limits in
    let if1 = c.if-breaks_limits in
    let refusal = c.refused in
    answered_as _ _ _ _ _ (verdict_over args.compiled.now args.assembled.now args.file.now args.path.now args.flag args.mode _ _ _ _ _ (sym breaks-limits.ensures ∙ if1.true)) (answered_refused _ _ _ _ _ _ refusal.ensures refl)

pub take_inputs-requires : goal.take_inputs-requires
take_inputs-requires c =
    let breaks-limits = c.breaks_limits in
    let if1 = c.if-breaks_limits in
    let l = merge_limits _ _ _ _ _ _ _ _ _ _ (sym breaks-limits.ensures ∙ if1.false) in
    (l.blocks_limit_lem, l.table_size, l.places_size)

pub inputs_of-inputs-requires : goal.inputs_of-inputs-requires
inputs_of-inputs-requires c =
    let args = c.args in
    let take-inputs = c.take_inputs in
    took_sound args.compiled.now args.assembled.now args.file.now _ _ _ take-inputs.ensures _ c.in-Ok.is

pub head_length-head-requires : goal.head_length-head-requires
head_length-head-requires c =
    let breaks-limits = c.breaks_limits in
    let if1 = c.if-breaks_limits in
    let args = c.args in
    let l = merge_limits _ _ _ _ _ _ _ _ _ _ (sym breaks-limits.ensures ∙ if1.false) in
    path_short args.path.now l.path_is

pub merge_carried-requires : goal.merge_carried-requires
merge_carried-requires c =
    let breaks-limits = c.breaks_limits in
    let if1 = c.if-breaks_limits in
    let args = c.args in
    let take-inputs = c.take_inputs in
    let inputs-of = c.inputs_of-inputs in
    let head-length = c.head_length-head in
    let l = merge_limits _ _ _ _ _ _ _ _ _ _ (sym breaks-limits.ensures ∙ if1.false) in
    (inputs_read args.compiled.now args.assembled.now args.file.now _ _ _ take-inputs.ensures _ c.in-Ok.is l.compiled_limit_lem l.assembled_limit_lem _ inputs-of.ensures, record { short = path_short args.path.now l.path_is; head = head-length.ensures.0; few = head-length.ensures.1 }, record { table_long = rw take-inputs.auto.table l.table_size; places_long = rw take-inputs.auto.places l.places_size; steps_long_lem = l.steps_size; index_long_lem = l.index_size })

pub shape_of-table-in-Ok : goal.shape_of-table-in-Ok
shape_of-table-in-Ok c =
    let merge-carried = c.merge_carried in
    let take-inputs = c.take_inputs in
    merge-carried.auto.table ∙ take-inputs.auto.table

pub returns-in-Ok : goal.returns-in-Ok
returns-in-Ok c =
    let breaks-limits = c.breaks_limits in
    let if1 = c.if-breaks_limits in
    let args = c.args in
    let take-inputs = c.take_inputs in
    let inputs-of = c.inputs_of-inputs in
    let head-length = c.head_length-head in
    let merge-carried = c.merge_carried in
    let l = merge_limits _ _ _ _ _ _ _ _ _ _ (sym breaks-limits.ensures ∙ if1.false) in
    let q = inputs_read args.compiled.now args.assembled.now args.file.now _ _ _ take-inputs.ensures _ c.in-Ok.is l.compiled_limit_lem l.assembled_limit_lem _ inputs-of.ensures in
    answered_as _ _ _ _ _ (verdict_stages args.compiled.now args.assembled.now args.file.now args.path.now args.flag args.mode _ _ _ _ _ (sym breaks-limits.ensures ∙ if1.false) _ take-inputs.ensures.verdict _ c.in-Ok.is _ inputs-of.ensures _ q.placed) merge-carried.ensures

pub returns-in-Err : goal.returns-in-Err
returns-in-Err c =
    let args = c.args in
    let breaks-limits = c.breaks_limits in
    let if1 = c.if-breaks_limits in
    let take-inputs = c.take_inputs in
    let refusal2 = c.refused-in-Err in
    answered_as _ _ _ _ _ (verdict_refused args.compiled.now args.assembled.now args.file.now args.path.now args.flag args.mode _ _ _ _ _ (sym breaks-limits.ensures ∙ if1.false) _ take-inputs.ensures.verdict _ _ _ c.in-Err.is) (answered_refused _ _ _ _ _ _ refusal2.ensures refl)
