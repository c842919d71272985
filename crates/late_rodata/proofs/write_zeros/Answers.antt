-- `late_rodata::write_zeros` meets its contract: the part is zeroed and put back. Assumes nothing.
use Rattle.late_rodata.proofs.Writing.{zeros_put}
use Prim.Native.Nat.{◌+◌, ◌-◌}
use native.Mathlib.Omega.{arith}
use Rattle.late_rodata.proofs.write_zeros.Goals as goal

pub returns : goal.returns
returns c =
    let a = c.args in
    zeros_put a.out.now c.zero.new.s a.at (a.at + a.size - a.at) a.size c.requires (omega arith) c.zero.ensures
