-- `merge_missing::missing_verdict` meets its contract: A is asked where no code of C is at fault. Assumes nothing.
use Rattle.base_scope.proofs.Refusals.{err_through}
use Rattle.blocks_places.specs.Lines.{line_count}
use Rattle.blocks_places.specs.Table.{places_in}
use Rattle.merge_missing.proofs.Ends.{missing_a_lem, verdict_c, verdict_a}
use mathlib.Core.Path.{sym, ◌∙◌}
use Rattle.merge_missing.proofs.missing_verdict.Goals as goal

pub returns-in_err-finding_verdict : goal.returns-in_err-finding_verdict
returns-in_err-finding_verdict c =
    let a = c.args in
    let P = places_in a.places.now (line_count a.file.now) in
    err_through c.from_residual.ensures.1 ∙ sym c.in_err-finding_verdict.was
    ∙ verdict_c a.inputs.order a.compiled.now a.assembled.now P a.file.now _ c.missing_in_c-c.ensures _ c.finding_verdict.ensures _ _ _ c.in_err-finding_verdict.was

pub returns : goal.returns
returns c =
    let a = c.args in
    let P = places_in a.places.now (line_count a.file.now) in
    verdict_a a.inputs.order a.compiled.now a.assembled.now P a.file.now _ c.missing_in_c-c.ensures _ c.finding_verdict.ensures c.in_ok-finding_verdict.was _
    (c.missing_in_a-a.ensures ∙ missing_a_lem a.inputs.order a.compiled.now a.assembled.now P a.file.now c.requires.0.laid.fitting a.inputs.compiled c.requires.0.compiled.is a.ends c.requires.1 a.late c.requires.2)
    _ c.finding_verdict-2.ensures
