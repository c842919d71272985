-- Where the greatest of all bytes is not above 0, no byte is. Assumes nothing.
use native.Mathlib.Omega.{arith}
use mathlib.Core.Path.{refl}
use borrow.Author.Tests.{ltb-false}
use Rattle.base_lists.proofs.Ranges.{both}
use Rattle.base_buffers.proofs.is_used.Goals as goal

pub returns-then-greatest-gt0 : goal.returns-then-greatest-gt0
returns-then-greatest-gt0 c = λ e j h. both refl e

pub returns : goal.returns
returns c = λ e j h. omega (arith, c.greatest-2.ensures j h, ltb-false 0 c.greatest-2.result e)
