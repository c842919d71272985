-- Refusal 1; then what opening the inputs refuses; then the text, where there is room for it. Assumes nothing.
use Rattle.base_answers.proofs.Answered.{answered_as, answered_refused, room_there, room_short}
use Rattle.base_lists.proofs.Written.{written_as}
use Rattle.draft_call.proofs.Verdict.{draft_limits, verdict_over, verdict_refused, verdict_text, text_own}
use Rattle.open_inputs.proofs.Opening.{laid_own}
use native.Mathlib.Omega.{arith}
use mathlib.Core.Path.{refl, sym, ◌∙◌}
use Rattle.draft_call.proofs.draft_answer.Goals as goal

pub returns-then-breaks_draft_bounds : goal.returns-then-breaks_draft_bounds
returns-then-breaks_draft_bounds c =
    let a = c.args in
    answered_as _ _ _ _ _ (verdict_over a.compiled.now a.prelude.now a.blocks.now _ _ _ (sym c.breaks_draft_bounds.ensures ∙ c.if-breaks_draft_bounds.true)) (answered_refused _ _ _ _ _ _ c.refused.ensures refl)

pub open-requires : goal.open-requires
open-requires c =
    let l = draft_limits _ _ _ _ _ (sym c.breaks_draft_bounds.ensures ∙ c.if-breaks_draft_bounds.false) in
    (l.blocks_limit_lem, l.table_size, l.places_size)

pub append_text-n-requires : goal.append_text-n-requires
append_text-n-requires c =
    let o = c.open.ensures in
    let l = draft_limits _ _ _ _ _ (sym c.breaks_draft_bounds.ensures ∙ c.if-breaks_draft_bounds.false) in
    (laid_own _ _ _ _ (o.laid _ c.in-Ok.is), o.blocks _ c.in-Ok.is, l.prelude_limit, omega (arith, l.table_size, c.open.auto.table))

pub returns-then-n-out : goal.returns-then-n-out
returns-then-n-out c =
    let a = c.args in
    let o = c.open.ensures in
    let t = c.in-Ok.is in
    let w = written_as _ _ _ _ _ _ (text_own _ _ _ _ (o.laid _ t) a.prelude.now) c.append_text-n.ensures in
    answered_as _ _ _ _ _ (verdict_text a.compiled.now a.prelude.now a.blocks.now _ _ _ (sym c.breaks_draft_bounds.ensures ∙ c.if-breaks_draft_bounds.false) _ o.verdict _ t)
    (room_there _ _ _ _ _ w (omega (arith, c.if-n-out.true, w.long)) c.result.ensures)

pub returns-else-n-out : goal.returns-else-n-out
returns-else-n-out c =
    let a = c.args in
    let o = c.open.ensures in
    let t = c.in-Ok.is in
    let w = written_as _ _ _ _ _ _ (text_own _ _ _ _ (o.laid _ t) a.prelude.now) c.append_text-n.ensures in
    answered_as _ _ _ _ _ (verdict_text a.compiled.now a.prelude.now a.blocks.now _ _ _ (sym c.breaks_draft_bounds.ensures ∙ c.if-breaks_draft_bounds.false) _ o.verdict _ t)
    (room_short _ _ _ _ _ w (omega (arith, c.if-n-out.false, w.long)) c.refused-in-Ok.ensures)

pub returns-in-Err : goal.returns-in-Err
returns-in-Err c =
    let a = c.args in
    answered_as _ _ _ _ _ (verdict_refused a.compiled.now a.prelude.now a.blocks.now _ _ _ (sym c.breaks_draft_bounds.ensures ∙ c.if-breaks_draft_bounds.false) _ c.open.ensures.verdict _ _ _ c.in-Err.is) (answered_refused _ _ _ _ _ _ c.refused-in-Err.ensures refl)
