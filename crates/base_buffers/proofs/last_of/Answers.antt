-- Only j = n - 1 is below n and not below n - 1. Assumes nothing.
use native.Mathlib.Omega.{arith}
use Prim.Native.Nat.{◌+◌, ◌-◌}
use mathlib.Core.Path.{◌≡◌}
use Rattle.base_buffers.proofs.last_of.Goals as goal

pub returns-then-n-gt0 : goal.returns-then-n-gt0
returns-then-n-gt0 c =
    let a = c.args in
    λ j h l.
    let e : a.at + j ≡ a.at + a.n - 1 = omega arith in
    rw e (omega arith)

pub returns : goal.returns
returns c = λ j h l. absurd (omega (arith, c.if-n-gt0.false))
