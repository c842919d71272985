-- The two arms are the two faults. Assumes nothing.
use Rattle.std.specs.Prelude.{Err}
use Rattle.open_inputs.proofs.Order.{placing_8, placing_9}
use mathlib.Core.Path.{sym, ap}
use Rattle.open_inputs.proofs.place_refusal.Goals as goal

pub returns-in-Misplaced : goal.returns-in-Misplaced
returns-in-Misplaced c = sym (placing_8 _ c.in-Misplaced.block (ap Err c.in-Misplaced.is))

pub returns-in-Misaligned : goal.returns-in-Misaligned
returns-in-Misaligned c = sym (placing_9 _ c.in-Misaligned.block (ap Err c.in-Misaligned.is))
