-- A byte passed over is another, so the first from i on is the first from `at` on; the loop stops at it. Assumes nothing.
use native.Mathlib.Omega.{arith}
use Prim.Native.Nat.{◌-◌}
use mathlib.Core.Path.{refl, sym, ◌∙◌}
use Rattle.base_names.proofs.Words.{byte_here, byte_next, byte_past}
use Rattle.base_names.proofs.first_by_bytes.Goals as goal

pub loop-i-init : goal.loop-i-init
loop-i-init c = refl

pub returns-then-t-i : goal.returns-then-t-i
returns-then-t-i c =
    let a = c.args in
    let l = c.loop-i in
    sym (l.invariant ∙ byte_here a.t.now a.byte l.i (omega arith) c.if-t-i.true)

pub loop-i-preserved : goal.loop-i-preserved
loop-i-preserved c =
    let a = c.args in
    let l = c.loop-i in
    l.invariant ∙ byte_next a.t.now a.byte l.i (omega arith) c.if-t-i.false

pub returns : goal.returns
returns c =
    let a = c.args in
    let l = c.loop-i in
    sym (l.invariant ∙ byte_past a.t.now a.byte l.i (omega arith))
