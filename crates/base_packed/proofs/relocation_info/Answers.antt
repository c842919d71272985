-- The shift loses nothing of an index below 2 ^ 24, and the kind lies below it: the bits are the sum.
use Rattle.base_packed.proofs.Packed.{joined}
use Rattle.std.proofs.Common.{arith}
use Rattle.base_packed.proofs.relocation_info.Goals as goal

pub returns : goal.returns
returns c = joined 24 8 32 c.args.symbol.0 c.args.kind c.requires.0 c.requires.1 (omega arith)
