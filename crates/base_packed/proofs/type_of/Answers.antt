-- The mask keeps the low four bits, which is the remainder.
use lib.Bits.{and_mask}
use Rattle.base_packed.proofs.type_of.Goals as goal

pub returns : goal.returns
returns c = and_mask c.args.info 4
