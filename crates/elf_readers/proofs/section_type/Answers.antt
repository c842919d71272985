-- The type is word 1 of the header. Assumes nothing.
use mathlib.Core.Path.{◌∙◌}
use Rattle.elf_readers.proofs.Readers.{type_word}
use Rattle.elf_readers.proofs.section_type.Goals as goal

pub returns : goal.returns
returns c =
    let a = c.args in
    c.header_word.ensures ∙ type_word a.order a.file.now a.i
