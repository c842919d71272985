-- The three tests of `relocation_table_sound`, on the header in hand. Assumes nothing.
use Rattle.elf_relocations.proofs.Relocations.{sound_read}
use Rattle.elf_relocations.proofs.is_relocation_table_sound.Goals as goal

pub returns : goal.returns
returns c =
    let a = c.args in
    sound_read a.order a.file.now a.i _ c.section_at-h.ensures _ a.symbols _ _ _ c.section_count-n.ensures.0 c.requires.1 c.entry_size-size.ensures.0 c.both-placed.ensures c.both.ensures
