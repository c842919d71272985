-- The type of the section is compared. Assumes nothing.
use Rattle.elf_relocations.proofs.Relocations.{rela_kind}
use Rattle.elf_relocations.proofs.is_rela.Goals as goal

pub returns : goal.returns
returns c =
    let a = c.args in
    rela_kind a.order a.file.now a.i _ c.type_of.ensures
