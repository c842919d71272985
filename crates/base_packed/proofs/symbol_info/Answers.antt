-- The shift loses nothing of a binding below 16, and the type lies below it: the bits are the sum.
use Rattle.base_packed.proofs.Packed.{joined}
use Rattle.std.proofs.Common.{arith}
use Rattle.base_packed.proofs.symbol_info.Goals as goal

pub returns : goal.returns
returns c = joined 4 4 8 c.args.binding c.args.kind c.requires.0 c.requires.1 (omega arith)
