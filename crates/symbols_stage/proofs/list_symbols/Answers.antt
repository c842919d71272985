-- The list is written behind the glabels, by the rows. Assumes nothing.
use Rattle.symbols_stage.proofs.Stage.{list_ready, listed_of}
use Rattle.symbols_stage.proofs.list_symbols.Goals as goal

pub list_ids-requires : goal.list_ids-requires
list_ids-requires c =
    let args = c.args in
    let fill-table = c.fill_table-n in
    let part = c.part-rows in
    let bound = c.bound-from in
    let bound2 = c.bound-to in
    let pre = c.requires in
    list_ready args.compiled.now args.assembled.now args.filling _ args.table.now _ args.steps.now _ _ _ fill-table.ensures part.ensures bound.ensures bound2.ensures pre.0 pre.1 pre.2

pub returns : goal.returns
returns c =
    let args = c.args in
    let fill-table = c.fill_table-n in
    let part = c.part-rows in
    let bound = c.bound-from in
    let bound2 = c.bound-to in
    let pre = c.requires in
    let list-ids = c.list_ids in
    listed_of args.compiled.now args.assembled.now args.filling _ args.table.now _ args.steps.now _ _ _ fill-table.ensures part.ensures bound.ensures bound2.ensures pre.0 pre.1 pre.2 _ _ list-ids.auto.list list-ids.ensures
