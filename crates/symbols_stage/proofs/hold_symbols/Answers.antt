-- The holders are written behind the places. Assumes nothing.
use Rattle.symbols_stage.proofs.Stage.{hold_ready, held_of}
use Rattle.symbols_stage.proofs.hold_symbols.Goals as goal

pub hold_symbols-requires : goal.hold_symbols-requires
hold_symbols-requires c =
    let args = c.args in
    let part = c.part-statics in
    let part2 = c.part-rows in
    let part3 = c.part-list in
    let bound = c.bound-from in
    let bound2 = c.bound-to in
    let pre = c.requires in
    hold_ready args.compiled.now args.assembled.now args.filling args.m args.table.now args.steps.now args.places.now args.index.now _ _ _ _ _ part.ensures part2.ensures part3.ensures bound.ensures bound2.ensures pre.0 pre.1 pre.2

pub returns : goal.returns
returns c =
    let args = c.args in
    let part = c.part-statics in
    let part2 = c.part-rows in
    let part3 = c.part-list in
    let bound = c.bound-from in
    let bound2 = c.bound-to in
    let pre = c.requires in
    let hold-symbols = c.hold_symbols in
    held_of args.compiled.now args.assembled.now args.filling args.m args.table.now args.steps.now args.places.now args.index.now _ _ _ _ _ part.ensures part2.ensures part3.ensures bound.ensures bound2.ensures pre.0 pre.1 _ hold-symbols.auto.holders hold-symbols.ensures
