-- After i turns none of the first i bytes of a half passes its top. Assumes nothing.
use Rattle.base_buffers.proofs.Buffers.{top_next, halves_top}
use native.Mathlib.Omega.{arith}
use Prim.Native.Nat.{◌+◌, ◌/◌}
use mathlib.Core.Path.{◌≡◌, refl}
use Rattle.base_buffers.proofs.greatest.Goals as goal

pub loop-i-init : goal.loop-i-init
loop-i-init c = (λ j h. absurd (omega arith), λ j h. absurd (omega arith))

pub loop-i-preserved : goal.loop-i-preserved
loop-i-preserved c =
    let a = c.args in
    let l = c.loop-i in
    let front = c.greater-front in (
      top_next a.s.now a.at l.i l.front _ l.invariant.0 front.ensures.0 front.ensures.1,
      top_next a.s.now (a.at + a.n / 2) l.i l.back _ l.invariant.1 c.greater-back.ensures.0 c.greater-back.ensures.1,
    )

pub returns : goal.returns
returns c =
    let a = c.args in
    let l = c.loop-i in
    let e : l.i ≡ a.n / 2 = omega arith in
    let both = c.greater.ensures in
    let top = c.greater-2.ensures in
    halves_top a.s.now a.at a.n (a.n / 2) l.front l.back c.last_of.result _ refl (rw e at l.invariant.0) (rw e at l.invariant.1) c.last_of.ensures
    (omega (arith, both.0, top.0)) (omega (arith, both.1, top.0)) top.1
