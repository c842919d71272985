-- The definition, as it stands. Assumes nothing.
use Rattle.std.proofs.Common.{refl}
use Rattle.base_index.specs.Index.{spread}
use Rattle.base_index.proofs.spread.Goals as goal

pub returns : goal.returns
unfolding spread
returns c = refl
