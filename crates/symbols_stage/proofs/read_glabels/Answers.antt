-- The words are written behind the statics. Assumes nothing.
use Rattle.symbols_stage.proofs.Stage.{glabels_ready, glabels_of}
use Rattle.symbols_stage.proofs.read_glabels.Goals as goal

pub mark_glabels-requires : goal.mark_glabels-requires
mark_glabels-requires c =
    let args = c.args in
    let part = c.part-blocks in
    let part2 = c.part-lines in
    let bound = c.bound-from in
    let bound2 = c.bound-to in
    let pre = c.requires in
    let part3 = c.part-names in
    glabels_ready args.assembled.now args.file.now args.inputs args.table.now args.places.now args.steps.now args.index.now _ _ _ _ part.ensures part2.ensures bound.ensures bound2.ensures pre.3 _ part3.ensures pre.0 pre.1 pre.2 pre.4

pub returns : goal.returns
returns c =
    let args = c.args in
    let part = c.part-blocks in
    let part2 = c.part-lines in
    let bound = c.bound-from in
    let bound2 = c.bound-to in
    let pre = c.requires in
    let mark-glabels = c.mark_glabels in
    glabels_of args.assembled.now args.file.now args.inputs args.table.now args.places.now args.steps.now args.index.now _ _ _ _ part.ensures part2.ensures bound.ensures bound2.ensures pre.3 _ mark-glabels.auto.marks mark-glabels.ensures
