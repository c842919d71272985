-- The two arms are the two cases of `expect`. Assumes nothing.
use Rattle.base_scope.specs.Refusals.{expect}
use Rattle.base_scope.proofs.expected.Goals as goal

pub returns-then-holds : goal.returns-then-holds
unfolding expect
returns-then-holds c = rw c.if-holds.true

pub returns-else-holds : goal.returns-else-holds
unfolding expect
returns-else-holds c = rw c.if-holds.false
