-- 17; where it does not refuse, the glabels and the list. Assumes nothing.
use mathlib.Core.Path.{refl, ◌∙◌}
use Rattle.symbols_stage.proofs.End.{statics_refused, statics_glabels, statics_list, statics_end}
use Rattle.symbols_stage.proofs.merge_statics.Goals as goal

pub read_statics-listing-requires : goal.read_statics-listing-requires
read_statics-listing-requires c =
    let pre = c.requires in
    (pre.0.read.compiled.named, pre.0.read.compiled_small, pre.0.read.compiled.is, pre.4, pre.5.steps_long_lem)

pub read_glabels-requires : goal.read_glabels-requires
read_glabels-requires c =
    let args = c.args in
    let pre = c.requires in
    let read-statics = c.read_statics-listing in
    statics_glabels args.compiled.now args.assembled.now args.file.now args.stage args.manner args.table.now args.places.now args.steps.now args.index.now pre.0 _ _ read-statics.ensures pre.5 pre.6

pub merge_list-requires : goal.merge_list-requires
merge_list-requires c =
    let args = c.args in
    let pre = c.requires in
    let read-statics = c.read_statics-listing in
    let read-glabels = c.read_glabels in
    let filling-of = c.filling_of-filling in
    statics_list args.compiled.now args.assembled.now args.file.now args.stage args.manner args.table.now args.places.now args.steps.now args.index.now pre.0 _ _ read-statics.ensures pre.5 pre.1 pre.2 pre.3 _ read-glabels.ensures _ filling-of.ensures _ refl pre.6

pub shape_of-steps-in-None : goal.shape_of-steps-in-None
shape_of-steps-in-None c =
    let merge-list = c.merge_list in
    let read-glabels = c.read_glabels in
    let read-statics = c.read_statics-listing in
    merge-list.auto.steps ∙ read-glabels.auto.steps ∙ read-statics.auto.steps

pub returns-in-None : goal.returns-in-None
returns-in-None c =
    let args = c.args in
    let pre = c.requires in
    let read-statics = c.read_statics-listing in
    let read-glabels = c.read_glabels in
    let filling-of = c.filling_of-filling in
    let merge-list = c.merge_list in
    statics_end args.compiled.now args.assembled.now args.file.now args.stage args.manner args.table.now args.places.now args.steps.now args.index.now pre.0 _ _ read-statics.ensures pre.5 pre.1 pre.2 pre.3 _ read-glabels.ensures c.in-None.is _ filling-of.ensures _ _ _ _ _ merge-list.auto.index merge-list.ensures

pub returns-in-Some : goal.returns-in-Some
returns-in-Some c =
    let args = c.args in
    let pre = c.requires in
    let read-statics = c.read_statics-listing in
    statics_refused args.compiled.now args.assembled.now args.file.now args.stage args.manner args.table.now args.places.now args.steps.now args.index.now pre.0 _ _ read-statics.ensures _ c.in-Some.is
