-- The index of A's symbols stands in its buffer for 11 to 13 and, where none refuses, for the late step and what follows. Assumes nothing.
use mathlib.Core.Path.{refl, ◌∙◌}
use Rattle.write_merged.specs.of_write_planned.Held.{held_places}
use Rattle.merge_buffers.specs.Buffers.{blocks_part, places_part}
use lib.ListN.{length}
use Rattle.base_answers.proofs.Answered.{answered_as, answered_refused}
use Rattle.merge_verdict.proofs.Accepted.{stage_read, answer_unlined, answer_lined}
use Rattle.merge_call.proofs.merge_stages.Goals as goal

pub index_names-requires : goal.index_names-requires
index_names-requires c =
    let pre = c.requires in
    (pre.0.assembled, pre.2.index_long_lem)

pub line_up-requires : goal.line_up-requires
line_up-requires c =
    let pre = c.requires in
    let index-names = c.index_names in
    (pre.0, pre.2.table_long, pre.2.places_long, rw index-names.auto.index pre.2.index_long_lem, index-names.ensures)

pub merge_late-requires : goal.merge_late-requires
merge_late-requires c =
    let args = c.args in
    let pre = c.requires in
    let line-up = c.line_up in
    let index-names = c.index_names in
    (stage_read args.compiled.now args.assembled.now args.file.now args.inputs (blocks_part args.table.now) (places_part args.places.now) pre.0 _ line-up.ensures _ c.in-Ok.is, pre.1, record { table_long = pre.2.table_long; places_long = pre.2.places_long; steps_long_lem = pre.2.steps_long_lem; index_long_lem = rw index-names.auto.index pre.2.index_long_lem }, index-names.ensures)

pub shape_of-index-in-Ok : goal.shape_of-index-in-Ok
shape_of-index-in-Ok c =
    let merge-late = c.merge_late in
    let index-names = c.index_names in
    merge-late.auto.index ∙ index-names.auto.index

pub returns-in-Ok : goal.returns-in-Ok
returns-in-Ok c =
    let args = c.args in
    let line-up = c.line_up in
    let merge-late = c.merge_late in
    answered_as _ _ _ _ _ (answer_lined args.inputs.order args.compiled.now args.assembled.now (held_places args.file.now args.places.now) args.file.now args.path.now args.flag args.manner.mode (length args.out.now) _ line-up.ensures _ c.in-Ok.is) merge-late.ensures

pub returns-in-Err : goal.returns-in-Err
returns-in-Err c =
    let args = c.args in
    let line-up = c.line_up in
    let refusal = c.refused in
    answered_as _ _ _ _ _ (answer_unlined args.inputs.order args.compiled.now args.assembled.now (held_places args.file.now args.places.now) args.file.now args.path.now args.flag args.manner.mode (length args.out.now) _ line-up.ensures _ _ _ c.in-Err.is) (answered_refused _ _ _ _ _ _ refusal.ensures refl)
