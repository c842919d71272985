-- By the section code. Assumes nothing.
use Rattle.statics_names.proofs.Names.{type_text, type_other}
use native.Mathlib.Omega.{arith}
use Rattle.statics_names.proofs.static_type.Goals as goal

pub returns-then-s-eq-TEXT : goal.returns-then-s-eq-TEXT
returns-then-s-eq-TEXT c = (type_text c.args.s c.if-s-eq-TEXT.true, omega arith)

pub returns : goal.returns
returns c = (type_other c.args.s c.if-s-eq-TEXT.false, omega arith)
