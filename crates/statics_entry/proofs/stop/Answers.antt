-- The fields, one by one. Assumes nothing.
use Rattle.statics_entry.specs.Code.{stopped}
use mathlib.Core.Path.{refl}
use Rattle.statics_entry.proofs.stop.Goals as goal

pub returns : goal.returns
unfolding stopped
returns c = refl
