-- The statics are written behind the marks. Assumes nothing.
use Rattle.symbols_stage.proofs.Stage.{statics_of}
use Rattle.symbols_stage.proofs.read_statics.Goals as goal

pub returns : goal.returns
returns c =
    let args = c.args in
    let bound = c.bound-from in
    let bound2 = c.bound-to in
    let pre = c.requires in
    let list-statics = c.list_statics in
    statics_of args.compiled.now args.inputs.order args.mode args.head _ _ args.steps.now _ bound.ensures bound2.ensures pre.4 list-statics.auto.table _ list-statics.ensures
