-- `copy_registers::joined_byte` meets its contract: the test on k is the definition's. Assumes nothing.
use Rattle.copy_registers.specs.Reginfo.{or_byte}
use Rattle.copy_registers.proofs.Reginfo.{byte_both, byte_alone}
use Rattle.copy_registers.proofs.joined_byte.Goals as goal

pub returns-then-k-assembled : goal.returns-then-k-assembled
unfolding or_byte
returns-then-k-assembled c =
    let a = c.args in
    byte_both a.compiled.now a.assembled.now a.k c.if-k-assembled.true

pub returns : goal.returns
returns c =
    let a = c.args in
    byte_alone a.compiled.now a.assembled.now a.k c.if-k-assembled.false
