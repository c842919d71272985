-- Where the section of the code is there its type is compared. Assumes nothing.
use Rattle.elf_sections.proofs.Names.{mistyped_there, mistyped_absent}
use native.Mathlib.Omega.{arith}
use Rattle.elf_sections.proofs.is_mistyped.Goals as goal

pub returns-then-k-section_count : goal.returns-then-k-section_count
returns-then-k-section_count c =
    let a = c.args in
    let q = c.requires in
    mistyped_there a.order a.file.now a.i a.k q.2 _ _ (omega arith) c.type_of.ensures c.code_type.ensures

pub returns : goal.returns
returns c =
    let a = c.args in
    let q = c.requires in
    mistyped_absent a.order a.file.now a.i a.k q.2 (omega arith)
