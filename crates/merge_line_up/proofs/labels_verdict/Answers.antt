-- `merge_line_up::labels_verdict` meets its contract: 13 is asked where 12 passes. Assumes nothing.
use Rattle.base_scope.proofs.Refusals.{err_through}
use Rattle.blocks_places.specs.Lines.{line_count}
use Rattle.blocks_places.specs.Table.{places_in}
use Rattle.merge_line_up.proofs.LineUp.{labels_12, labels_13}
use mathlib.Core.Path.{sym, ◌∙◌}
use Rattle.merge_line_up.proofs.labels_verdict.Goals as goal

pub returns-in_err-finding_verdict : goal.returns-in_err-finding_verdict
returns-in_err-finding_verdict c =
    let a = c.args in
    let P = places_in a.places.now (line_count a.file.now) in
    err_through c.from_residual.ensures.1 ∙ sym c.in_err-finding_verdict.was
    ∙ labels_12 a.order a.assembled.now P a.file.now a.size _ c.label_fault-block.ensures _ c.finding_verdict.ensures _ _ _ c.in_err-finding_verdict.was

pub returns : goal.returns
returns c =
    let a = c.args in
    let P = places_in a.places.now (line_count a.file.now) in
    labels_13 a.order a.assembled.now P a.file.now a.size _ c.label_fault-block.ensures _ c.finding_verdict.ensures c.in_ok-finding_verdict.was _ c.late_label_fault-late.ensures _ c.finding_verdict-2.ensures
