-- The code is compared with the last of the five. Assumes nothing.
use Rattle.symbols_taken.proofs.Sections.{source_read}
use Rattle.symbols_taken.proofs.is_source.Goals as goal

pub returns : goal.returns
returns c =
    let a = c.args in
    source_read a.view a.s _ c.code_of.ensures.0
