-- One where the type is in the list, none where it is not. Assumes nothing.
use native.Mathlib.Omega.{arith}
use Rattle.statics_file.proofs.opens.Goals as goal

pub returns-then-opens_scope : goal.returns-then-opens_scope
returns-then-opens_scope c = (rw (← c.opens_scope.ensures, c.if-opens_scope.true), omega arith)

pub returns : goal.returns
returns c = (rw (← c.opens_scope.ensures, c.if-opens_scope.false), omega arith)
