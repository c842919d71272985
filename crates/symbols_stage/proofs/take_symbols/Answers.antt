-- The marks are written behind the late table, which stays. Assumes nothing.
use Rattle.symbols_stage.proofs.Stage.{taken_ready, taken_of}
use Rattle.symbols_stage.proofs.take_symbols.Goals as goal

pub taken_verdict-requires : goal.taken_verdict-requires
taken_verdict-requires c =
    let args = c.args in
    let bound = c.bound-from in
    let bound2 = c.bound-to in
    let pre = c.requires in
    let mark-used = c.mark_used in
    taken_ready args.assembled.now args.stage _ _ args.steps.now _ bound.ensures bound2.ensures pre.0 pre.1 pre.2 mark-used.auto.used mark-used.ensures

pub returns : goal.returns
returns c =
    let args = c.args in
    let bound = c.bound-from in
    let bound2 = c.bound-to in
    let pre = c.requires in
    let mark-used = c.mark_used in
    let taken-verdict = c.taken_verdict in
    taken_of args.assembled.now args.stage _ _ args.steps.now _ bound.ensures bound2.ensures pre.0 pre.1 pre.2 mark-used.auto.used mark-used.ensures _ taken-verdict.ensures
