-- The parts of a written name, added. Assumes nothing.
use Rattle.statics_table.proofs.Statics.{written_is}
use native.Mathlib.Omega.{arith}
use Rattle.statics_table.proofs.written_length.Goals as goal

pub returns : goal.returns
returns c = (written_is c.args.head c.args.s c.tail_length-tail.result c.tail_length-tail.ensures.0, omega arith)
