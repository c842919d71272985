-- Refusal 17, then the object where there is room for it. Assumes nothing.
use Rattle.write_object.proofs.Own.{rewrite_clear, rewrite_refused}
use Rattle.base_answers.proofs.Answered.{answered_as, answered_refused}
use mathlib.Core.Path.{refl, sym, ◌∙◌}
use Rattle.write_object.proofs.rewrite_answer.Goals as goal

pub place_object-requires : goal.place_object-requires
place_object-requires c = (c.requires, sym c.moved_finding.ensures ∙ c.in-None.is)

pub returns-in-None : goal.returns-in-None
returns-in-None c =
    let a = c.args in
    answered_as _ _ _ _ _ (rewrite_clear a.order a.file.now _ (sym c.moved_finding.ensures ∙ c.in-None.is)) c.place_object.ensures

pub returns-in-Some : goal.returns-in-Some
returns-in-Some c =
    let a = c.args in
    answered_as _ _ _ _ _ (rewrite_refused a.order a.file.now _ _ (sym c.moved_finding.ensures ∙ c.in-Some.is)) (answered_refused _ _ _ _ _ _ c.refused.ensures refl)
