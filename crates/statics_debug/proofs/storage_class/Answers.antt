-- The mask keeps the five bits. Assumes nothing.
use lib.Bits.{and_mask}
use Prim.Native.Nat.{◌/◌, ◌^◌}
use Rattle.statics_debug.proofs.storage_class.Goals as goal

pub returns : goal.returns
returns c = and_mask (c.args.bits / 2 ^ 21) 5
