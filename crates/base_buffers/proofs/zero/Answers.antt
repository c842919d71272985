-- The front that was passed is zero and the rest is as it was; at the end nothing is left. Assumes nothing.
use Rattle.base_buffers.proofs.Buffers.{front_none, front_next, front_all}
use native.Mathlib.Omega.{arith}
use Prim.Native.Nat.{◌-◌}
use mathlib.Core.Path.{◌≡◌, refl, ◌∙◌}
use lib.ListN.{length}
use Rattle.base_buffers.proofs.zero.Goals as goal

pub loop-i-init : goal.loop-i-init
loop-i-init c = (omega arith, refl, front_none c.args.s.now)

pub zero_part-requires : goal.zero_part-requires
zero_part-requires c =
    let l = c.loop-i in
    omega (arith, c.stretch_of-n.ensures.1, l.invariant.1)

pub loop-i-preserved : goal.loop-i-preserved
loop-i-preserved c =
    let a = c.args in
    let l = c.loop-i in
    let w = c.zero_part in
    let n = c.stretch_of-n in (
      omega (arith, n.ensures.1, l.invariant.1),
      w.auto.s ∙ l.invariant.1,
      front_next a.s.now l.s _ l.i n.result (omega (arith, n.ensures.1, l.invariant.1)) l.invariant.2 w.ensures,
    )

pub returns : goal.returns
returns c =
    let a = c.args in
    let l = c.loop-i in
    let e : l.i ≡ length a.s.now = omega (arith, c.loop-i-test.false, l.invariant.0, l.invariant.1) in
    front_all a.s.now l.s l.i e l.invariant.2
