-- `late_dummies::shift_dummy` meets its contract: at each `return` the tests that led there say which case of `shift_spot` holds. Assumes nothing.
use Rattle.late_dummies.proofs.Dummies.{shift_lost, shift_yes, shift_no}
use native.Mathlib.Omega.{arith}
use mathlib.Core.Path.{sym, ◌∙◌}
use Rattle.late_dummies.proofs.shift_dummy.Goals as goal

pub returns-then-rodata-at-lt8 : goal.returns-then-rodata-at-lt8
returns-then-rodata-at-lt8 c =
    let a = c.args in
    shift_lost a.order a.rodata.now a.at (omega arith)

pub returns-then-is_word_at : goal.returns-then-is_word_at
returns-then-is_word_at c =
    let a = c.args in
    shift_yes a.order a.rodata.now a.at (omega arith) (sym c.is_word_at.ensures ∙ c.if-is_word_at.true)

pub returns : goal.returns
returns c =
    let a = c.args in
    shift_no a.order a.rodata.now a.at (omega arith) (sym c.is_word_at.ensures ∙ c.if-is_word_at.false)
