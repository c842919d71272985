-- The two tests of `is_section_in`. Assumes nothing.
use Rattle.symbols_taken.proofs.Sections.{section_read}
use Rattle.symbols_taken.proofs.is_section_in.Goals as goal

pub returns : goal.returns
returns c =
    let a = c.args in
    section_read a.view a.s a.code _ _ _ c.has_coded.ensures c.section.ensures c.both.ensures
