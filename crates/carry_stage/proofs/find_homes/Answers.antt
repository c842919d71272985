-- The homes are written over the holders. Assumes nothing.
use Rattle.carry_stage.proofs.Ready.{homes_room, homes_left}
use Rattle.carry_stage.proofs.find_homes.Goals as goal

pub list_homes-requires : goal.list_homes-requires
list_homes-requires c =
    let pre = c.requires in
    let args = c.args in
    let bound = c.bound-from in
    let bound2 = c.bound-to in
    (pre.0, pre.1, pre.2, homes_room _ _ args.places.now bound.ensures bound2.ensures pre.3)

pub returns : goal.returns
returns c =
    let pre = c.requires in
    let args = c.args in
    let bound = c.bound-from in
    let bound2 = c.bound-to in
    let list-homes = c.list_homes in
    homes_left _ _ args.places.now bound.ensures bound2.ensures pre.3 args.inputs.order args.compiled.now args.assembled.now
    args.stay _ _ list-homes.auto.rows list-homes.ensures
