-- The two tests of `is_offset`. Assumes nothing.
use Rattle.statics_shift.specs.Shift.{is_offset}
use Rattle.statics_shift.proofs.is_offset.Goals as goal

pub returns : goal.returns
unfolding is_offset
returns c = c.both.ensures
