-- 18 and 19; where neither refuses, the numbers. Assumes nothing.
use Rattle.base_scope.proofs.Refusals.{err_through}
use Rattle.symbols_stage.proofs.End.{counts_low, end_numbered, end_refused}
use Rattle.symbols_stage.proofs.number_list.Goals as goal

pub symbols_verdict-requires : goal.symbols_verdict-requires
symbols_verdict-requires c =
    let pre = c.requires in
    pre.0.held

pub returns-in_err-symbols_verdict : goal.returns-in_err-symbols_verdict
returns-in_err-symbols_verdict c =
    let args = c.args in
    rw (err_through c.from_residual.ensures.1) (end_refused _ _ _ args.m args.ids args.statics _ c.symbols_verdict.ensures _ _ _ _ c.in_err-symbols_verdict.was)

pub counts_of-requires : goal.counts_of-requires
counts_of-requires c =
    let args = c.args in
    let pre = c.requires in
    let number-positions = c.number_positions-starts in
    counts_low _ _ _ args.m pre.0 _ number-positions.ensures.groups

pub returns : goal.returns
returns c =
    let args = c.args in
    let number-positions = c.number_positions-starts in
    end_numbered _ _ _ args.m args.ids args.statics _ c.symbols_verdict.ensures _ c.in_ok-symbols_verdict.was _ number-positions.ensures _ c.counts_of.ensures
