-- `base_fields::write8` meets its contract: a store is a write of one byte.
-- Assumes nothing.
use native.Mathlib.Omega.{arith}
use Rattle.base_lists.proofs.Windows.{spliced_one}
use Rattle.base_fields.proofs.write8.Goals as goal

pub returns : goal.returns
returns c = spliced_one c.args.s.now c.args.at c.args.x (omega arith)
