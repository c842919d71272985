-- `merge_missing::is_asked_c` meets its contract. Assumes nothing.
use Rattle.merge_missing.proofs.Ends.{both_read, asked_span, asked_late, asked_target}
use mathlib.Core.Path.{◌∙◌}
use Rattle.merge_missing.proofs.is_asked_c.Goals as goal

pub returns-then-both : goal.returns-then-both
returns-then-both c =
    let a = c.args in
    asked_span a.order a.assembled.now a.end a.late a.code (both_read _ _ _ _ _ c.both.ensures c.holds_bytes.ensures c.if-both.true)

pub returns-then-both-2 : goal.returns-then-both-2
returns-then-both-2 c =
    let a = c.args in
    asked_late a.order a.assembled.now a.end a.late a.code (both_read _ _ _ _ _ c.both.ensures c.holds_bytes.ensures c.if-both.false) (both_read _ _ _ _ _ c.both-2.ensures c.is_late_target.ensures c.if-both-2.true)

pub returns : goal.returns
returns c =
    let a = c.args in
    c.is_target.ensures ∙ asked_target a.order a.assembled.now a.end a.late a.code (both_read _ _ _ _ _ c.both.ensures c.holds_bytes.ensures c.if-both.false) (both_read _ _ _ _ _ c.both-2.ensures c.is_late_target.ensures c.if-both-2.false)
