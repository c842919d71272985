-- The front that was passed is zero and the rest is as it was; at the end nothing is left. Assumes nothing.
use Rattle.base_buffers.specs.Buffers.{zeros}
use Rattle.base_buffers.proofs.Buffers.{zero_next, zero_all}
use native.Mathlib.Omega.{arith}
use mathlib.Core.Path.{◌≡◌, refl}
use lib.ListN.{length}
use Rattle.base_buffers.proofs.clear.Goals as goal

pub loop-i-init : goal.loop-i-init
unfolding zeros
loop-i-init c = refl

pub loop-i-preserved : goal.loop-i-preserved
loop-i-preserved c =
    let l = c.loop-i in
    zero_next c.args.s.now l.s l.i (omega arith) l.invariant

pub returns : goal.returns
returns c =
    let l = c.loop-i in
    let e : l.i ≡ length c.args.s.now = omega arith in
    zero_all c.args.s.now l.s l.i e l.invariant
