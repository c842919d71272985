-- The end of the row before, where there is one. Assumes nothing.
use lib.Dec.{ltb}
use borrow.Author.Tests.{lt-ltb, le-ltb}
use Rattle.carry_entries.proofs.Goals.{there, not_there}
use Rattle.carry_entries.proofs.end_before.Goals as goal

pub returns-then-r-gt0 : goal.returns-then-r-gt0
returns-then-r-gt0 c = there (ltb 0 c.args.r) _ _ _ (lt-ltb _ _ c.if-r-gt0.true) c.row_end.ensures

pub returns : goal.returns
returns c = not_there (ltb 0 c.args.r) _ _ (le-ltb _ _ c.if-r-gt0.false)
