-- 10; where it does not refuse, 11 on. Assumes nothing.
use mathlib.Core.Path.{refl}
use lib.ListN.{length}
use Rattle.base_answers.proofs.Answered.{answered_as, answered_refused}
use Rattle.write_merged.specs.of_write_planned.Held.{held_places}
use Rattle.merge_verdict.proofs.Accepted.{answer_10, answer_unclashed}
use Rattle.merge_call.proofs.merge_carried.Goals as goal

pub returns-in-None : goal.returns-in-None
returns-in-None c =
    let args = c.args in
    let clash-fault = c.clash_fault in
    let merge-stages = c.merge_stages in
    answered_as _ _ _ _ _ (answer_unclashed args.inputs.order args.compiled.now args.assembled.now (held_places args.file.now args.places.now) args.file.now args.path.now args.flag args.manner.mode (length args.out.now) _ clash-fault.ensures c.in-None.is) merge-stages.ensures

pub returns-in-Some : goal.returns-in-Some
returns-in-Some c =
    let args = c.args in
    let clash-fault = c.clash_fault in
    let refusal = c.refused in
    answered_as _ _ _ _ _ (answer_10 args.inputs.order args.compiled.now args.assembled.now (held_places args.file.now args.places.now) args.file.now args.path.now args.flag args.manner.mode (length args.out.now) _ clash-fault.ensures _ c.in-Some.is) (answered_refused _ _ _ _ _ _ refusal.ensures refl)
