-- A section of the five has the target of its code; any other has none. Assumes nothing.
use Rattle.symbols_taken.proofs.Faults.{target_low, target_read, target_none}
use native.Mathlib.Omega.{arith}
use Rattle.symbols_taken.proofs.has_target.Goals as goal

pub has_coded-requires : goal.has_coded-requires
has_coded-requires c =
    let e = c.target_code.ensures in
    let h = target_low c.code_of-code.result c.code_of-code.ensures.1 (omega (arith, c.if-code-le-LATE_RODATA.true)) in
    (rw e h.0, rw e h.1)

pub returns-then-code-le-LATE_RODATA : goal.returns-then-code-le-LATE_RODATA
returns-then-code-le-LATE_RODATA c =
    let a = c.args in
    target_read a.compiled a.assembled a.s _ _ _ c.code_of-code.ensures.0 c.if-code-le-LATE_RODATA.true c.target_code.ensures c.has_coded.ensures

pub returns : goal.returns
returns c =
    let a = c.args in
    target_none a.compiled a.assembled a.s _ c.code_of-code.ensures.0 c.if-code-le-LATE_RODATA.false
