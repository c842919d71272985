-- Carrying is made ready, which keeps all that the symbols left; then 20; where it does not refuse, the merged object. Assumes nothing.
use mathlib.Core.Path.{refl}
use Rattle.base_answers.proofs.Answered.{answered_as, answered_refused}
use Rattle.merge_call.proofs.Stages.{carry_sides, merged_ready, entries_refused, entries_merged}
use Rattle.merge_call.proofs.merge_entries.Goals as goal

pub carry_fault-requires : goal.carry_fault-requires
carry_fault-requires c =
    let a = c.args in
    let p = c.requires in
    let carry-ready = c.carry_ready-carry in
    carry_sides a.compiled.now a.assembled.now a.file.now a.path.now a.stage a.manner a.counts a.table.now a.places.now a.steps.now a.index.now p.0 p.1 p.2 p.3 p.4 a.flag _ _ _ carry-ready.ensures

pub merged_answer-requires : goal.merged_answer-requires
merged_answer-requires c =
    let a = c.args in
    let p = c.requires in
    let carry-ready = c.carry_ready-carry in
    merged_ready a.compiled.now a.assembled.now a.file.now a.path.now a.stage a.manner a.counts a.table.now a.places.now a.steps.now a.index.now p.0 p.1 p.2 p.3 p.4 a.flag _ _ _ carry-ready.ensures

pub shape_of-places-in-Ok : goal.shape_of-places-in-Ok
shape_of-places-in-Ok c =
    let carry-ready = c.carry_ready-carry in
    carry-ready.auto.places

pub returns-in-Ok : goal.returns-in-Ok
returns-in-Ok c =
    let a = c.args in
    let p = c.requires in
    let carry-ready = c.carry_ready-carry in
    let carry-fault = c.carry_fault in
    let merged-answer = c.merged_answer in
    answered_as _ _ _ _ _ (entries_merged a.compiled.now a.assembled.now a.file.now a.path.now a.stage a.manner a.counts a.table.now a.places.now a.steps.now a.index.now p.0 p.1 p.2 p.3 p.4 a.flag _ _ _ carry-ready.ensures _ carry-fault.ensures _ c.in-Ok.is) merged-answer.ensures

pub returns-in-Err : goal.returns-in-Err
returns-in-Err c =
    let a = c.args in
    let p = c.requires in
    let carry-ready = c.carry_ready-carry in
    let carry-fault = c.carry_fault in
    let refusal = c.refused in
    answered_as _ _ _ _ _ (entries_refused a.compiled.now a.assembled.now a.file.now a.path.now a.stage a.manner a.counts a.table.now a.places.now a.steps.now a.index.now p.0 p.1 p.2 p.3 p.4 a.flag _ _ _ carry-ready.ensures _ carry-fault.ensures _ _ _ _ c.in-Err.is) (answered_refused _ _ _ _ _ _ refusal.ensures refl)
