-- The two conjuncts of `is_strtab` in turn. Assumes nothing.
use Rattle.elf_readers.proofs.Readers.{strtab_there, strtab_past}
use native.Mathlib.Omega.{arith}
use Rattle.elf_readers.proofs.is_strtab.Goals as goal

pub returns-then-i-section_count : goal.returns-then-i-section_count
returns-then-i-section_count c =
    let a = c.args in
    strtab_there a.order a.file.now a.i _ c.type_of.ensures (omega arith)

pub returns : goal.returns
returns c =
    let a = c.args in
    strtab_past a.order a.file.now a.i (omega arith)
