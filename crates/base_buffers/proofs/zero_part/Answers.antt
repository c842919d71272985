-- Bytes of which none is used are zero already; any others are cleared and put back. Assumes nothing.
use Rattle.base_buffers.proofs.Buffers.{bytes_zero, part_kept, part_cleared}
use native.Mathlib.Omega.{arith}
use Prim.Native.Nat.{◌+◌, ◌-◌}
use mathlib.Core.Path.{◌≡◌, refl}
use Rattle.base_buffers.proofs.zero_part.Goals as goal

pub returns-then-is_used : goal.returns-then-is_used
returns-then-is_used c =
    let a = c.args in
    let e : a.at + a.n - a.at ≡ a.n = omega arith in
    part_cleared a.s.now _ a.at a.n (a.at + a.n - a.at) c.requires e c.clear.ensures

pub returns-else-is_used : goal.returns-else-is_used
returns-else-is_used c =
    let a = c.args in
    part_kept a.s.now a.at a.n c.requires (bytes_zero a.s.now a.at a.n 0 c.requires refl (c.is_used.ensures c.if-is_used.false))
