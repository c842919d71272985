-- `merge_inputs::take_inputs` meets its contract: A is asked behind C and the block file, and the first that refuses decides. Assumes nothing.
use Rattle.base_scope.proofs.Refusals.{err_through}
use Rattle.merge_inputs.proofs.Reading.{took_shut, took_refused, took_all}
use mathlib.Core.Path.{◌∙◌, sym}
use Rattle.merge_inputs.proofs.take_inputs.Goals as goal

pub returns-in_err-blocks : goal.returns-in_err-blocks
returns-in_err-blocks c =
    let a = c.args in
    rw (err_through c.from_residual.ensures.1 ∙ sym c.in_err-blocks.was) (took_shut a.compiled.now a.assembled.now a.file.now _ _ _ c.open.ensures _ _ _ c.in_err-blocks.was)

pub returns-in_err-check_verdict : goal.returns-in_err-check_verdict
returns-in_err-check_verdict c =
    let a = c.args in
    rw (err_through c.from_residual-in_err-check_verdict.ensures.1)
    (took_refused a.compiled.now a.assembled.now a.file.now _ _ _ c.open.ensures _ c.in_ok-blocks.was _ c.check_verdict.ensures _ _ _ c.in_err-check_verdict.was)

pub returns : goal.returns
returns c =
    let a = c.args in
    rw (sym c.in_ok-blocks.was)
    (took_all a.compiled.now a.assembled.now a.file.now _ _ _ c.open.ensures _ c.in_ok-blocks.was _ c.check_verdict.ensures c.in_ok-check_verdict.was)
