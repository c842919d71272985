-- `blocks_values::is_digit` meets its contract: the two tests are those of `is_digit`. Assumes nothing.
use Rattle.blocks_values.specs.Values.{is_digit}
use Rattle.blocks_values.proofs.is_digit.Goals as goal

pub returns : goal.returns
unfolding is_digit
returns c = c.both.ensures
