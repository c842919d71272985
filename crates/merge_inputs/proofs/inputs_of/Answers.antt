-- `merge_inputs::inputs_of` meets its contract: both objects are read in the byte order that C states. Assumes nothing.
use Rattle.merge_inputs.proofs.Reading.{inputs_same, sound_stated}
use Rattle.merge_inputs.proofs.inputs_of.Goals as goal

pub view_of-target-requires : goal.view_of-target-requires
view_of-target-requires c =
    let a = c.args in
    let p = c.requires in
    sound_stated a.compiled.now _ _ c.order_of-order.ensures p.0

pub view_of-source-requires : goal.view_of-source-requires
view_of-source-requires c =
    let a = c.args in
    let p = c.requires in
    sound_stated a.assembled.now _ _ c.order_of-order.ensures p.1

pub returns : goal.returns
returns c =
    let a = c.args in
    inputs_same a.compiled.now a.assembled.now a.blocks _ _ _ c.order_of-order.ensures c.view_of-target.ensures c.view_of-source.ensures
