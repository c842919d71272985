-- The word is shifted up, and what leaves it comes back below. Assumes nothing.
use Rattle.std.proofs.Common.{arith}
use Rattle.base_index.proofs.Hashes.{turn_rest, turn_fits}
use Rattle.base_index.proofs.turn.Goals as goal

pub overflow_sub-result : goal.overflow_sub-result
overflow_sub-result c = omega arith

pub overflow_add-result : goal.overflow_add-result
overflow_add-result c = record { fits = turn_fits c.args.h c.args.n (omega arith) c.requires }

pub returns : goal.returns
returns c = turn_rest c.args.h c.args.n (omega arith) c.requires
