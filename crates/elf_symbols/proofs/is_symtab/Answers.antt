-- The type of the section is compared. Assumes nothing.
use Rattle.elf_symbols.proofs.Symbols.{symtab_read}
use Rattle.elf_symbols.proofs.is_symtab.Goals as goal

pub returns : goal.returns
returns c =
    let a = c.args in
    symtab_read a.order a.file.now a.i _ c.section_type.ensures
