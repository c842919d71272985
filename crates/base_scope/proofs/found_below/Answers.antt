-- The two arms are the two cases of `found_below`. Assumes nothing.
use Rattle.base_scope.specs.Refusals.{found_below}
use borrow.Author.Tests.{lt-ltb, le-ltb}
use Rattle.base_scope.proofs.found_below.Goals as goal

pub returns-then-i-n : goal.returns-then-i-n
unfolding found_below
returns-then-i-n c = rw (lt-ltb _ _ c.if-i-n.true)

pub returns-else-i-n : goal.returns-else-i-n
unfolding found_below
returns-else-i-n c = rw (le-ltb _ _ c.if-i-n.false)
