-- A header outside the file is not sound; one inside is read and tested. Assumes nothing.
use Rattle.elf_sections.proofs.Headers.{section_outside, section_inside}
use Rattle.elf_readers.specs.Readers.{section}
use Rattle.elf_records.specs.Section.{section_at}
use native.Mathlib.Omega.{arith}
use mathlib.Core.Path.{ap, ◌∙◌}
use Rattle.elf_sections.proofs.is_section_sound.Goals as goal

pub returns-then-at-file : goal.returns-then-at-file
returns-then-at-file c =
    let a = c.args in
    section_outside a.order a.file.now a.i (omega arith)

pub returns : goal.returns
unfolding section
returns c =
    let a = c.args in
    c.is_header_sound.ensures ∙ section_inside a.order a.file.now a.i _ (c.new.ensures ∙ ap (section_at a.order a.file.now) c.header_place-at.ensures.0) (omega arith)
