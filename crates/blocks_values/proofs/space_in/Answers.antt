-- `blocks_values::space_in` meets its contract: a space is the byte 32. Assumes nothing.
use mathlib.Core.Path.{◌∙◌}
use Rattle.blocks_values.proofs.Values.{first_space}
use Rattle.blocks_values.proofs.space_in.Goals as goal

pub returns : goal.returns
returns c = c.first_byte.ensures ∙ first_space c.args.v.now
