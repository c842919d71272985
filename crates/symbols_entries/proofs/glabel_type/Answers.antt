-- The test is that of the definition. Assumes nothing.
use Rattle.symbols_entries.proofs.Entries.{type_glabel, type_own}
use native.Mathlib.Omega.{arith}
use Rattle.symbols_entries.proofs.glabel_type.Goals as goal

pub returns-then-word-eq1 : goal.returns-then-word-eq1
returns-then-word-eq1 c = (type_glabel c.args.word c.args.kind c.if-word-eq1.true, omega arith)

pub returns : goal.returns
returns c = (type_own c.args.word c.args.kind c.if-word-eq1.false, c.requires)
