-- A mask of as many bytes. Assumes nothing.
use Rattle.base_index.proofs.Numbers.{low_mask, bit_low}
use Rattle.base_index.proofs.low_part.Goals as goal

pub overflow_sub-result : goal.overflow_sub-result
overflow_sub-result c = bit_low c.args.n c.requires

pub returns : goal.returns
returns c = low_mask c.args.word c.args.n c.requires
