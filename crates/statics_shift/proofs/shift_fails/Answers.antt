-- A section of another type, or one that stays, is not tested. Assumes nothing.
use Rattle.statics_shift.proofs.Shift.{fails_other, fails_still, fails_moved}
use native.Mathlib.Omega.{arith}
use Rattle.statics_shift.proofs.shift_fails.Goals as goal

pub returns-then-kind-ne-SHT_MIPS_DEBUG : goal.returns-then-kind-ne-SHT_MIPS_DEBUG
returns-then-kind-ne-SHT_MIPS_DEBUG c =
    let a = c.args in
    fails_other a.order a.debug.now a.kind a.old a.new c.if-kind-ne-SHT_MIPS_DEBUG.true

pub returns-then-old-new : goal.returns-then-old-new
returns-then-old-new c =
    let a = c.args in
    fails_still a.order a.debug.now a.kind a.old a.new (omega arith) c.if-old-new.true

pub returns : goal.returns
returns c =
    let a = c.args in
    fails_moved a.order a.debug.now a.kind a.old a.new _ (omega arith) c.if-old-new.false c.has_header.ensures
