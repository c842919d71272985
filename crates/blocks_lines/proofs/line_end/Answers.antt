-- `blocks_lines::line_end` meets its contract: a line ends at the first LF. Assumes nothing.
use mathlib.Core.Path.{◌∙◌}
use Rattle.blocks_lines.proofs.Lines.{first_feed}
use Rattle.blocks_lines.proofs.line_end.Goals as goal

pub returns : goal.returns
returns c =
    let a = c.args in
    c.first_byte.ensures ∙ first_feed a.file.now a.at
