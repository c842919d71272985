-- The mask keeps the low two bits, which is the remainder.
use lib.Bits.{and_mask}
use Rattle.base_packed.proofs.visibility_of.Goals as goal

pub returns : goal.returns
returns c = and_mask c.args.other 2
