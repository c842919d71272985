-- The table of the late step is the first of its buffer. Assumes nothing.
use Rattle.merge_call.proofs.Stages.{late_room, late_put}
use Rattle.merge_call.proofs.search_late.Goals as goal

pub late_fault-requires : goal.late_fault-requires
late_fault-requires c =
    let part = c.part-blocks in
    let part2 = c.part-lines in
    let pre = c.requires in
    let args = c.args in
    let bound = c.bound-from in
    let bound2 = c.bound-to in
    (rw (part.ensures, part2.ensures) pre.0, late_room _ _ args.steps.now bound.ensures bound2.ensures pre.3)

pub returns : goal.returns
returns c =
    let args = c.args in
    let part2 = c.part-lines in
    let bound = c.bound-from in
    let bound2 = c.bound-to in
    let pre = c.requires in
    let late-fault = c.late_fault in
    late_put args.compiled.now args.file.now args.stage _ args.places.now _ _ args.steps.now _ _ part2.ensures bound.ensures bound2.ensures pre.3 late-fault.auto.late late-fault.ensures
