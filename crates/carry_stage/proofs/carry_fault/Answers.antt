-- Refusal 20 by the tables in hand is that of document 01. Assumes nothing.
use Rattle.carry_stage.proofs.Stage.{parts_read, parts_judged}
use Rattle.carry_stage.proofs.carry_fault.Goals as goal

pub losses_verdict-requires : goal.losses_verdict-requires
losses_verdict-requires c =
    let args = c.args in
    parts_read args.compiled.now args.assembled.now args.stage args.carry args.steps.now args.index.now _ _ _
    c.part-rows.ensures c.part-late.ensures c.part-numbers.ensures c.requires

pub returns : goal.returns
returns c =
    let args = c.args in
    parts_judged args.compiled.now args.assembled.now args.stage args.carry args.steps.now args.index.now _ _ _
    c.part-rows.ensures c.part-late.ensures c.part-numbers.ensures _ c.losses_verdict.ensures
