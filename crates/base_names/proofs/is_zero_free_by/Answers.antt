-- No byte passed over is zero, so the name at the start ends where the one at i does; behind the loop the rest lies among the last n bytes. Assumes nothing.
use native.Mathlib.Omega.{arith}
use Prim.Native.Nat.{◌-◌}
use mathlib.Core.Path.{refl, sym, ◌∙◌}
use lib.ListN.{length}
use Rattle.base_names.proofs.Zeros.{end_behind_free, free_not, free_yes}
use Rattle.base_names.proofs.is_zero_free_by.Goals as goal

pub loop-i-init : goal.loop-i-init
loop-i-init c = (omega arith, refl)

pub returns-then-has_zero : goal.returns-then-has_zero
returns-then-has_zero c =
    let a = c.args in
    let l = c.loop-i in
    free_not a.s.now l.i a.n (omega arith) (sym c.has_zero.ensures ∙ c.if-has_zero.true)

pub loop-i-preserved : goal.loop-i-preserved
loop-i-preserved c =
    let a = c.args in
    let l = c.loop-i in
    (omega arith, l.invariant.1 ∙ end_behind_free a.s.now l.i a.n (omega arith) (sym c.has_zero.ensures ∙ c.if-has_zero.false))

pub returns-then-has_zero-2 : goal.returns-then-has_zero-2
returns-then-has_zero-2 c =
    let a = c.args in
    free_not a.s.now (length a.s.now - a.n) a.n (omega arith) (sym c.has_zero-2.ensures ∙ c.if-has_zero-2.true)

pub returns : goal.returns
returns c =
    let a = c.args in
    let l = c.loop-i in
    let last = length a.s.now - a.n in
    free_yes a.s.now l.i a.n last l.invariant.1 (omega arith) l.invariant.0 (omega arith) (sym c.has_zero-2.ensures ∙ c.if-has_zero-2.false)
