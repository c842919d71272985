-- `blocks_lines::is_key_line` meets its contract: no line starts at 0 behind another. Assumes nothing.
use mathlib.Core.Path.{ap, ◌∙◌}
use lib.Dec.{ltb}
use Rattle.blocks_lines.proofs.After.{after_told}
use Rattle.blocks_lines.proofs.is_key_line.Goals as goal

pub returns : goal.returns
returns c =
    let a = c.args in
    ap (ltb 0) c.line_after.ensures ∙ after_told a.file.now a.k a.at
