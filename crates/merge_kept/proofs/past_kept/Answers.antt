-- `merge_kept::past_kept` meets its contract: no section from i on stays. Assumes nothing.
use Rattle.merge_kept.specs.Kept.{stays}
use Rattle.base_lists.proofs.Ranges.{past_end, past_here, past_next}
use Rattle.base_lists.specs.Ranges.{past_last}
use native.Mathlib.Omega.{arith}
use Prim.Native.Nat.{◌+◌, ◌-◌}
use mathlib.Core.Path.{◌≡◌, sym, ap, ◌∙◌}
use Rattle.merge_kept.proofs.past_kept.Goals as goal

pub loop-i-init : goal.loop-i-init
loop-i-init c =
    let a = c.args in
    sym (ap (past_last (stays a.order a.file.now)) c.section_count-n.ensures.0)

pub returns-then-is_kept : goal.returns-then-is_kept
returns-then-is_kept c =
    let a = c.args in
    let l = c.loop-i in
    let q = stays a.order a.file.now in
    let e : l.i - 1 + 1 ≡ l.i = omega arith in
    e ∙ sym (l.invariant ∙ past_here q l.i (omega arith) (sym c.is_kept.ensures ∙ c.if-is_kept.true))

pub loop-i-preserved : goal.loop-i-preserved
loop-i-preserved c =
    let a = c.args in
    let l = c.loop-i in
    let q = stays a.order a.file.now in
    l.invariant ∙ past_next q l.i (omega arith) (sym c.is_kept.ensures ∙ c.if-is_kept.false)

pub returns : goal.returns
returns c =
    let a = c.args in
    let l = c.loop-i in
    let q = stays a.order a.file.now in
    let e : l.i ≡ 0 = omega arith in
    sym (l.invariant ∙ ap (past_last q) e ∙ past_end q)
