-- The name's place is word 0 of the header. Assumes nothing.
use mathlib.Core.Path.{◌∙◌}
use Rattle.elf_readers.proofs.Readers.{name_word}
use Rattle.elf_readers.proofs.name_place.Goals as goal

pub returns : goal.returns
returns c =
    let a = c.args in
    c.header_word.ensures ∙ name_word a.order a.file.now a.i
