-- The section's bytes are divided by an entry's. Assumes nothing.
use Rattle.elf_relocations.proofs.Relocations.{count_read}
use Rattle.elf_relocations.proofs.relocation_count.Goals as goal

pub returns : goal.returns
returns c =
    let a = c.args in
    count_read a.order a.file.now a.t _ c.section_at-h.ensures _ c.entry_size-size.ensures.0
