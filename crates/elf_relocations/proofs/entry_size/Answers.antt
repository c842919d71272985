-- The bytes of an entry go by whether the table has addends. Assumes nothing.
use Rattle.elf_relocations.proofs.Relocations.{size_kind}
use Rattle.elf_relocations.proofs.entry_size.Goals as goal

pub returns : goal.returns
returns c =
    let a = c.args in
    let w = c.width_of.ensures in
    (size_kind a.order a.file.now a.i _ _ c.is_rela.ensures w.0, w.1, w.2)
