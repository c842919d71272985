-- `SectionHeader::write` meets its contract: ten words written one behind the other are the bytes of the header.
-- Assumes nothing.
use mathlib.Core.Path.{ap, ◌∙◌}
use Rattle.base_lists.specs.Windows.{spliced}
use Rattle.elf_records.specs.Section.{section_fields}
use Rattle.elf_records.proofs.Writes.{section_words}
use Rattle.elf_records.proofs.section.SectionHeader.write.Goals as goal

pub returns : goal.returns
unfolding section_fields
returns c =
    let a = c.args in
    c.write_words.ensures ∙ ap (spliced a.s.now a.at) (section_words a.order a.self)
