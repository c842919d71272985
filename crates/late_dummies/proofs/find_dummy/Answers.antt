-- `late_dummies::find_dummy` meets its contract: the word stands at no place before i, so the search from 0 on is the one from i on. Assumes nothing.
use Rattle.late_dummies.proofs.Dummies.{found_here, found_next, found_end}
use native.Mathlib.Omega.{arith}
use Prim.Native.Nat.{◌-◌}
use mathlib.Core.Path.{refl, sym, ◌∙◌}
use Rattle.late_dummies.proofs.find_dummy.Goals as goal

pub loop-i-init : goal.loop-i-init
loop-i-init c = (omega arith, refl)

pub returns-then-is_word_at : goal.returns-then-is_word_at
returns-then-is_word_at c =
    let a = c.args in
    let l = c.loop-i in
    let t = sym c.is_word_at.ensures ∙ c.if-is_word_at.true in
    (sym (l.invariant.1 ∙ found_here a.order a.part.now a.word l.i (omega arith) t), l.invariant.0)

pub loop-i-preserved : goal.loop-i-preserved
loop-i-preserved c =
    let a = c.args in
    let l = c.loop-i in
    let f = sym c.is_word_at.ensures ∙ c.if-is_word_at.false in
    (omega arith, l.invariant.1 ∙ found_next a.order a.part.now a.word l.i (omega arith) f)

pub returns : goal.returns
returns c =
    let a = c.args in
    let l = c.loop-i in
    (sym (l.invariant.1 ∙ found_end a.order a.part.now a.word l.i (omega arith)), l.invariant.0)
