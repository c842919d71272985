-- The fields are those of the stage. Assumes nothing.
use mathlib.Core.Path.{refl}
use Rattle.symbols_stage.specs.End.{filling_of}
use Rattle.symbols_stage.proofs.filling_of.Goals as goal

pub returns : goal.returns
unfolding filling_of
returns c =
    refl
