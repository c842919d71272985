-- The part between two places is the table there. Assumes nothing.
use mathlib.Core.Path.{refl}
use Rattle.base_buffers.proofs.Parts.{part_lent}
use Rattle.base_buffers.proofs.part.Goals as goal

pub returns : goal.returns
returns c = let a = c.args in part_lent a.at a.size a.at _ a.buffer.now refl refl
