-- The name is compared where the section's header says. Assumes nothing.
use mathlib.Core.Path.{◌∙◌}
use Rattle.elf_readers.proofs.Readers.{has_name_read}
use Rattle.elf_readers.proofs.has_name.Goals as goal

pub returns : goal.returns
returns c =
    let a = c.args in
    c.name_is.ensures ∙ has_name_read a.order a.file.now a.i _ a.strings.now a.name.now c.name_place.ensures c.requires.2
