-- `blocks_places::off_step` meets its contract: the two are the same record. Assumes nothing.
use Rattle.blocks_places.specs.Table.{off_step}
use mathlib.Core.Path.{refl}
use Rattle.blocks_places.proofs.off_step.Goals as goal

pub returns : goal.returns
unfolding off_step
returns c = refl
