-- The three tests of `symbol_sound`; a name that starts below the place past the last zero byte has an end. Assumes nothing.
use Rattle.elf_symbol_faults.proofs.Faults.{sound_read}
use Rattle.elf_symbol_faults.proofs.is_symbol_sound.Goals as goal

pub returns : goal.returns
returns c =
    let a = c.args in
    let q = c.requires.0 in
    sound_read a.order a.file.now a.k a.ends a.sections _ a.strings.now _ _ _ _ c.symbol_at-s.ensures q.entries.names q.past q.known c.is_null_symbol_sound-null.ensures c.is_index_sound-indexed.ensures c.both.ensures c.both-2.ensures
