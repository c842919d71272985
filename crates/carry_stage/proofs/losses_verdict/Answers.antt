-- C's loss decides where there is one. Assumes nothing.
use Rattle.base_scope.proofs.Refusals.{err_through}
use Rattle.carry_stage.proofs.Stage.{side_reads_c, side_reads_a, losses_passed, losses_refused}
use mathlib.Core.Path.{sym, ◌∙◌}
use Rattle.carry_stage.proofs.losses_verdict.Goals as goal

pub loss_verdict-requires : goal.loss_verdict-requires
loss_verdict-requires c =
    let pre = c.requires in
    let args = c.args in
    side_reads_c args.compiled.now args.assembled.now args.stage args.carry args.rows.now args.late.now args.numbers.now _ _
    c.compiled_side-own.ensures c.assembled_side-other.ensures pre.0

pub returns-in_err-loss_verdict : goal.returns-in_err-loss_verdict
returns-in_err-loss_verdict c =
    let args = c.args in
    err_through c.from_residual.ensures.1 ∙ sym c.in_err-loss_verdict.was
    ∙ losses_refused args.compiled.now args.assembled.now args.stage args.carry args.rows.now args.late.now args.numbers.now _ _
    c.compiled_side-own.ensures c.assembled_side-other.ensures _ _ _ _
    c.loss_verdict.ensures c.in_err-loss_verdict.was

pub loss_verdict-requires-2 : goal.loss_verdict-requires-2
loss_verdict-requires-2 c =
    let pre = c.requires in
    let args = c.args in
    side_reads_a args.compiled.now args.assembled.now args.stage args.carry args.rows.now args.late.now args.numbers.now _ _
    c.compiled_side-own.ensures c.assembled_side-other.ensures pre.1

pub returns : goal.returns
returns c =
    let args = c.args in
    losses_passed args.compiled.now args.assembled.now args.stage args.carry args.rows.now args.late.now args.numbers.now _ _
    c.compiled_side-own.ensures c.assembled_side-other.ensures _ _
    c.loss_verdict.ensures c.in_ok-loss_verdict.was c.loss_verdict-2.ensures
