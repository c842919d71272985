-- 15 and 16; where neither refuses, the statics and the list. Assumes nothing.
use Rattle.base_scope.proofs.Refusals.{err_through}
use Rattle.symbols_stage.proofs.End.{stage_take, stage_statics, stage_end, stage_refused}
use Rattle.symbols_stage.proofs.merge_symbols.Goals as goal

pub take_symbols-requires : goal.take_symbols-requires
take_symbols-requires c =
    let args = c.args in
    let pre = c.requires in
    stage_take args.compiled.now args.assembled.now args.file.now args.stage args.manner args.table.now args.places.now args.steps.now args.index.now pre.0 pre.1 pre.3

pub returns-in_err-take_symbols : goal.returns-in_err-take_symbols
returns-in_err-take_symbols c =
    let args = c.args in
    let pre = c.requires in
    let take-symbols = c.take_symbols in
    rw (err_through c.from_residual.ensures.1)
    (stage_refused args.compiled.now args.assembled.now args.file.now args.stage args.manner args.table.now args.places.now args.steps.now args.index.now pre.0 pre.1 pre.3 _ _ take-symbols.ensures _ _ _ c.in_err-take_symbols.was)

pub merge_statics-requires : goal.merge_statics-requires
merge_statics-requires c =
    let args = c.args in
    let pre = c.requires in
    let take-symbols = c.take_symbols in
    stage_statics args.compiled.now args.assembled.now args.file.now args.stage args.manner args.table.now args.places.now args.steps.now args.index.now pre.0 pre.1 pre.3 _ _ take-symbols.ensures c.in_ok-take_symbols.was pre.2 pre.4

pub returns : goal.returns
returns c =
    let args = c.args in
    let pre = c.requires in
    let take-symbols = c.take_symbols in
    let merge-statics = c.merge_statics in
    stage_end args.compiled.now args.assembled.now args.file.now args.stage args.manner args.table.now args.places.now args.steps.now args.index.now pre.0 pre.1 pre.3 _ _ take-symbols.ensures c.in_ok-take_symbols.was _ _ _ _ _ merge-statics.ensures
