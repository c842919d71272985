-- `base_names::past_last_zero` meets its contract: no byte from i on is zero, so the last zero byte of the table is the last one below i; going
-- down, the first zero byte met is it. Assumes nothing.
use native.Mathlib.Omega.{arith}
use Prim.Native.Nat.{◌+◌, ◌-◌}
use mathlib.Core.Path.{◌≡◌, sym, ap, ◌∙◌}
use Rattle.base_lists.specs.Ranges.{past_last}
use Rattle.base_lists.specs.Strings.{zero_at}
use Rattle.base_lists.proofs.Ranges.{past_end, past_here, past_next}
use Rattle.base_lists.proofs.Strings.{zero_true, zero_false}
use Rattle.base_names.proofs.past_last_zero.Goals as goal

pub returns-then-t-i-eq0 : goal.returns-then-t-i-eq0
returns-then-t-i-eq0 c =
    let t = c.args.t.now in
    let l = c.loop-i in
    let e : l.i - 1 + 1 ≡ l.i = omega arith in
    e ∙ sym (l.invariant ∙ past_here (zero_at t) l.i (omega arith) (zero_true t (l.i - 1) c.if-t-i-eq0.true))

pub loop-i-preserved : goal.loop-i-preserved
loop-i-preserved c =
    let t = c.args.t.now in
    let l = c.loop-i in
    l.invariant ∙ past_next (zero_at t) l.i (omega arith) (zero_false t (l.i - 1) c.if-t-i-eq0.false)

pub returns : goal.returns
returns c =
    let t = c.args.t.now in
    let l = c.loop-i in
    let e : l.i ≡ 0 = omega arith in
    sym (l.invariant ∙ ap (past_last (zero_at t)) e ∙ past_end (zero_at t))
