-- `blocks_file::bad_line` meets its contract: the number it reports is the one of that line. Assumes nothing.
use Rattle.blocks_file.specs.Table.{bad_line}
use Rattle.blocks_file.proofs.bad_line.Goals as goal

pub returns : goal.returns
unfolding bad_line
returns c = cc c.line_number.ensures
