-- The two arms are the two cases of `target_code`. Assumes nothing.
use Rattle.base_scope.specs.Codes.{target_code}
use borrow.Author.Tests.{eq-eqb, ne_eqb}
use Rattle.base_scope.proofs.target_code.Goals as goal

pub returns-then-code-eq-LATE_RODATA : goal.returns-then-code-eq-LATE_RODATA
unfolding target_code
returns-then-code-eq-LATE_RODATA c = rw (eq-eqb _ _ c.if-code-eq-LATE_RODATA.true)

pub returns : goal.returns
unfolding target_code
returns c = rw (ne_eqb _ _ c.if-code-eq-LATE_RODATA.false)
