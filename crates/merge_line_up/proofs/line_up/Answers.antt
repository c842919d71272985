-- `merge_line_up::line_up` meets its contract: the first of 11, 12 and 13 that refuses decides, and where none does the late step is as it was found. Assumes nothing.
use Rattle.base_scope.specs.Text.{text}
use Rattle.base_scope.proofs.Refusals.{err_through}
use Rattle.elf_check.proofs.Views.{view_table}
use Rattle.blocks_places.specs.Lines.{line_count}
use Rattle.blocks_places.specs.Table.{places_in}
use Rattle.merge_labels.specs.Labels.{late_label}
use Rattle.merge_line_up.proofs.LineUp.{runs_is, line_up_11, line_up_12, line_up_all}
use Rattle.merge_line_up.proofs.line_up.Goals as goal

pub missing_verdict-requires : goal.missing_verdict-requires
missing_verdict-requires c =
    let a = c.args in
    let P = places_in a.places.now (line_count a.file.now) in
    (c.requires.0, c.span_ends-ends.ensures, runs_is P a.file.now _ c.late_length-size.ensures.0)

pub returns-in_err-missing_verdict : goal.returns-in_err-missing_verdict
returns-in_err-missing_verdict c =
    let a = c.args in
    let P = places_in a.places.now (line_count a.file.now) in
    rw (err_through c.from_residual.ensures.1) (line_up_11 a.inputs.order a.compiled.now a.assembled.now P a.file.now _ c.missing_verdict.ensures _ _ _ c.in_err-missing_verdict.was)

pub label_of-start-requires : goal.label_of-start-requires
label_of-start-requires c =
    let a = c.args in
    (view_table a.inputs.order a.assembled.now a.inputs.assembled c.requires.0.assembled.is c.requires.0.assembled.tabled, c.requires.1)

pub labels_verdict-requires : goal.labels_verdict-requires
unfolding late_label text
labels_verdict-requires c =
    let a = c.args in
    (c.requires.0.assembled, c.requires.0.laid, c.requires.0.many, c.label_of-start.ensures.0, c.label_of-start.ensures.1, c.late_length-size.ensures.1, c.requires.1)

pub returns-in_err-labels_verdict : goal.returns-in_err-labels_verdict
returns-in_err-labels_verdict c =
    let a = c.args in
    let P = places_in a.places.now (line_count a.file.now) in
    rw (err_through c.from_residual-in_err-labels_verdict.ensures.1)
    (line_up_12 a.inputs.order a.compiled.now a.assembled.now P a.file.now _ c.missing_verdict.ensures c.in_ok-missing_verdict.was _ c.late_length-size.ensures.0 _ c.labels_verdict.ensures _ _ _ c.in_err-labels_verdict.was)

pub returns : goal.returns
unfolding late_label text
returns c =
    let a = c.args in
    let P = places_in a.places.now (line_count a.file.now) in
    line_up_all a.inputs.order a.compiled.now a.assembled.now P a.file.now _ c.missing_verdict.ensures c.in_ok-missing_verdict.was _ c.late_length-size.ensures.0 _ c.labels_verdict.ensures c.in_ok-labels_verdict.was _ c.label_of-start.ensures.0 _ c.span_ends-ends.ensures
