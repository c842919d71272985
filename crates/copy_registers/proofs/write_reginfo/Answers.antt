-- `copy_registers::write_reginfo` meets its contract: after i turns the first i bytes are written, and the rest of the slice is as it was. Assumes nothing.
use Rattle.copy_registers.proofs.Reginfo.{joining_none, joining_next, joining_end}
use native.Mathlib.Omega.{arith}
use mathlib.Core.Path.{refl}
use lib.ListN.{length-set}
use Rattle.copy_registers.proofs.write_reginfo.Goals as goal

pub loop-i-init : goal.loop-i-init
loop-i-init c =
    let a = c.args in
    (omega arith, refl, joining_none a.compiled.now a.assembled.now a.out.now a.at)

pub loop-i-preserved : goal.loop-i-preserved
loop-i-preserved c =
    let a = c.args in
    let l = c.loop-i in (
      omega arith,
      simp length-set l.invariant.1,
      joining_next a.compiled.now a.assembled.now a.out.now a.at l.out l.i c.joined_byte.result c.requires (omega arith) c.joined_byte.ensures l.invariant.2,
    )

pub returns : goal.returns
returns c =
    let a = c.args in
    let l = c.loop-i in
    joining_end a.compiled.now a.assembled.now a.out.now a.at l.out l.i (omega arith) l.invariant.2
