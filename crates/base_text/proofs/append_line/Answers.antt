-- `base_text::append_line` meets its contract: the bytes and an LF, one behind the other, are the line. Assumes nothing.
use Rattle.base_text.specs.Lines.{lined}
use Rattle.base_lists.proofs.Written.{written_then}
use Rattle.base_text.proofs.append_line.Goals as goal

pub returns : goal.returns
unfolding lined
returns c = written_then _ _ _ _ _ _ _ _ c.append-a.ensures c.append.ensures
