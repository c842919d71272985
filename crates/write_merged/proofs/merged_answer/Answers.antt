-- Refusal 17, then the object where there is room for it. Assumes nothing.
use Rattle.write_merged.proofs.Merged.{spans_then, ready_still, answer_clear, answer_refused}
use Rattle.base_answers.proofs.Answered.{answered_as, answered_refused}
use mathlib.Core.Path.{refl, sym, ◌∙◌}
use borrow.Author.Rules.{rules}
use Rattle.write_merged.proofs.merged_answer.Goals as goal

pub measure_sections-requires : goal.measure_sections-requires
measure_sections-requires c = (c.requires, search rules)

pub moved_fault-requires : goal.moved_fault-requires
moved_fault-requires c =
    let a = c.args in
    (ready_still a.compiled.now a.assembled.now a.file.now a.path.now a.x a.table.now a.places.now a.steps.now a.index.now c.requires _ c.measure_sections.ensures.1, c.measure_sections.ensures.0)

pub place_merged-requires : goal.place_merged-requires
place_merged-requires c =
    let a = c.args in
    (ready_still a.compiled.now a.assembled.now a.file.now a.path.now a.x a.table.now a.places.now a.steps.now a.index.now c.requires _ (spans_then _ _ _ c.measure_sections.ensures.1 c.moved_fault.ensures.1), c.measure_sections.ensures.0, sym c.moved_fault.ensures.0 ∙ c.in-None.is)

pub returns-in-None : goal.returns-in-None
returns-in-None c =
    let a = c.args in
    answered_as _ _ _ _ _ (answer_clear a.compiled.now a.assembled.now a.file.now a.path.now a.x a.table.now a.places.now a.steps.now a.index.now c.requires _ (sym c.moved_fault.ensures.0 ∙ c.in-None.is)) c.place_merged.ensures

pub returns-in-Some : goal.returns-in-Some
returns-in-Some c =
    let a = c.args in
    answered_as _ _ _ _ _ (answer_refused a.compiled.now a.assembled.now a.file.now a.path.now a.x a.table.now a.places.now a.steps.now a.index.now c.requires _ _ (sym c.moved_fault.ensures.0 ∙ c.in-Some.is)) (answered_refused _ _ _ _ _ _ c.refused.ensures refl)
