-- One where the type is in the list, none where it is not. Assumes nothing.
use native.Mathlib.Omega.{arith}
use Rattle.statics_file.proofs.closes.Goals as goal

pub returns-then-closes_scope : goal.returns-then-closes_scope
returns-then-closes_scope c = (rw (← c.closes_scope.ensures, c.if-closes_scope.true), omega arith)

pub returns : goal.returns
returns c = (rw (← c.closes_scope.ensures, c.if-closes_scope.false), omega arith)
