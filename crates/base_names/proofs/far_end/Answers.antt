-- No byte passed over is zero, so the name ends where the one at i does. Assumes nothing.
use native.Mathlib.Omega.{arith}
use Prim.Native.Nat.{◌-◌}
use mathlib.Core.Path.{refl, sym, ◌∙◌}
use Rattle.base_lists.proofs.Strings.{end_past}
use Rattle.base_names.proofs.Zeros.{end_behind_free}
use Rattle.base_names.proofs.far_end.Goals as goal

pub loop-i-init : goal.loop-i-init
loop-i-init c = refl

pub returns-then-t-i-lt64 : goal.returns-then-t-i-lt64
returns-then-t-i-lt64 c = c.end_of.ensures ∙ sym c.loop-i.invariant

pub returns-then-has_zero : goal.returns-then-has_zero
returns-then-has_zero c = c.end_of-then-has_zero.ensures ∙ sym c.loop-i.invariant

pub loop-i-preserved : goal.loop-i-preserved
loop-i-preserved c =
    let a = c.args in
    let l = c.loop-i in
    l.invariant ∙ end_behind_free a.t.now l.i 64 (omega arith) (sym c.has_zero.ensures ∙ c.if-has_zero.false)

pub returns : goal.returns
returns c =
    let a = c.args in
    let l = c.loop-i in
    sym (l.invariant ∙ end_past a.t.now l.i (omega arith))
