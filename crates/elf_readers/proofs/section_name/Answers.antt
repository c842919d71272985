-- The name starts where the section's header says, in the names' table. Assumes nothing.
use mathlib.Core.Path.{◌∙◌}
use Rattle.elf_readers.proofs.Readers.{name_placed}
use Rattle.elf_readers.proofs.section_name.Goals as goal

pub returns : goal.returns
returns c =
    let a = c.args in
    c.name_at.ensures ∙ name_placed a.order a.file.now a.i _ _ c.name_place.ensures c.section_strings-strings.ensures
