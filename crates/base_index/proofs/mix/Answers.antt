-- One byte. Assumes nothing.
use Rattle.std.proofs.Common.{arith}
use Rattle.base_index.proofs.mix.Goals as goal

pub mix_part-requires : goal.mix_part-requires
mix_part-requires c = omega arith

pub returns : goal.returns
returns c = c.mix_part.ensures
