-- The fields, one by one. Assumes nothing.
use Rattle.statics_walk.specs.Code.{no_statics}
use mathlib.Core.Path.{refl}
use Rattle.statics_walk.proofs.no_statics.Goals as goal

pub returns : goal.returns
unfolding no_statics
returns c = refl
