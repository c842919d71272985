-- `merge_sections::write_registers` meets its contract. Assumes nothing.
use Rattle.merge_sections.specs.Sections.{register_bytes}
use native.Mathlib.Omega.{arith}
use Rattle.merge_sections.proofs.write_registers.Goals as goal

pub coded_contents-target-requires : goal.coded_contents-target-requires
coded_contents-target-requires c =
    let a = c.args in
    (c.requires.0, omega arith, omega arith)

pub coded_contents-source-requires : goal.coded_contents-source-requires
coded_contents-source-requires c =
    let a = c.args in
    (c.requires.1, omega arith, omega arith)

pub write_reginfo-requires : goal.write_reginfo-requires
write_reginfo-requires c =
    let a = c.args in
    rw c.coded_contents-target.ensures c.requires.2

pub returns : goal.returns
unfolding register_bytes
returns c =
    let a = c.args in
    rw (← c.coded_contents-target.ensures, ← c.coded_contents-source.ensures) c.write_reginfo.ensures
