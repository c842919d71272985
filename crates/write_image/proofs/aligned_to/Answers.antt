-- Without an alignment the end itself, else the next multiple. Assumes nothing.
use Rattle.write_image.proofs.Ends.{aligned_none, aligned_some}
use native.Mathlib.Nat.{div-mul-le_self}
use native.Mathlib.Omega.{arith}
use Prim.Native.Nat.{◌+◌, ◌-◌, ◌<◌}
use mathlib.Core.Path.{sym}
use Rattle.write_image.proofs.aligned_to.Goals as goal

pub returns-then-align-eq0 : goal.returns-then-align-eq0
returns-then-align-eq0 c = let a = c.args in sym (aligned_none a.end a.align c.if-align-eq0.true)

pub overflow_mul-result : goal.overflow_mul-result
overflow_mul-result c =
    let a = c.args in
    let n = c.if-align-eq0.false in
    omega (arith, div-mul-le_self (a.end + (a.align - 1)) a.align, c.requires)

pub returns : goal.returns
returns c =
    let a = c.args in
    let n = c.if-align-eq0.false in
    let some : 0 < a.align = omega (arith, n) in
    sym (aligned_some a.end a.align some)
