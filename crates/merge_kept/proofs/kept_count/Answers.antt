-- `merge_kept::kept_count` meets its contract. Assumes nothing.
use Rattle.merge_kept.proofs.Kept.{kept_flag, kept_all}
use mathlib.Core.Path.{sym, ◌∙◌}
use Rattle.merge_kept.proofs.kept_count.Goals as goal

pub returns-then-flag-eq1 : goal.returns-then-flag-eq1
returns-then-flag-eq1 c =
    let a = c.args in
    c.past_kept.ensures ∙ sym (kept_flag a.order a.file.now a.flag c.if-flag-eq1.true)

pub returns : goal.returns
returns c =
    let a = c.args in
    c.section_count.ensures.0 ∙ sym (kept_all a.order a.file.now a.flag c.if-flag-eq1.false)
