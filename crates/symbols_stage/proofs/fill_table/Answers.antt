-- The rows are written behind the table of blocks. Assumes nothing.
use Rattle.symbols_stage.proofs.Stage.{rows_room, filled_of}
use Rattle.symbols_stage.proofs.fill_table.Goals as goal

pub fill_rows-requires : goal.fill_rows-requires
fill_rows-requires c =
    let part = c.part-statics in
    let part2 = c.part-used in
    let part3 = c.part-late in
    let pre = c.requires in
    let args = c.args in
    let bound = c.bound-from in
    let bound2 = c.bound-to in
    (rw (part.ensures, part2.ensures, part3.ensures) pre.0, rows_room args.compiled.now args.assembled.now args.filling args.steps.now _ _ part.ensures part3.ensures _ _ args.table.now bound.ensures bound2.ensures pre.1 _ pre.0)

pub returns : goal.returns
returns c =
    let args = c.args in
    let part = c.part-statics in
    let part3 = c.part-late in
    let bound = c.bound-from in
    let bound2 = c.bound-to in
    let pre = c.requires in
    let fill-rows = c.fill_rows in
    filled_of args.compiled.now args.assembled.now args.filling args.steps.now _ _ part.ensures part3.ensures _ _ args.table.now bound.ensures bound2.ensures pre.1 _ fill-rows.auto.rows _ fill-rows.ensures
