-- The header lies inside the file by `Headed`, and is read where `header_place` says. Assumes nothing.
use Rattle.elf_readers.specs.Readers.{section}
use Rattle.elf_records.specs.Section.{section_at}
use native.Mathlib.Omega.{arith}
use mathlib.Core.Path.{ap, ◌∙◌}
use Rattle.elf_readers.proofs.section_at.Goals as goal

pub new-requires : goal.new-requires
new-requires c = omega (arith, c.requires.0.inside c.args.i c.requires.1)

pub returns : goal.returns
unfolding section
returns c =
    let a = c.args in
    c.new.ensures ∙ ap (section_at a.order a.file.now) c.header_place-at.ensures.0
