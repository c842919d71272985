-- `draft_lines::append_nop` meets its contract: the four bytes are the line. Assumes nothing.
use Rattle.base_scope.specs.Text.{text}
use Rattle.base_text.specs.Lines.{lined}
use Rattle.draft_lines.proofs.append_nop.Goals as goal

pub returns : goal.returns
unfolding lined text
returns c = c.append.ensures
