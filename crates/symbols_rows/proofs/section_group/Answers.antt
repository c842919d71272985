-- The two arms are the two groups. Assumes nothing.
use Rattle.symbols_rows.specs.Steps.{section_group}
use borrow.Author.Tests.{eq-eqb, ne_eqb}
use Rattle.symbols_rows.proofs.section_group.Goals as goal

pub returns-then-section-eq-SHN_UNDEF : goal.returns-then-section-eq-SHN_UNDEF
unfolding section_group
returns-then-section-eq-SHN_UNDEF c = rw (eq-eqb _ _ c.if-section-eq-SHN_UNDEF.true)

pub returns : goal.returns
unfolding section_group
returns c = rw (ne_eqb _ _ c.if-section-eq-SHN_UNDEF.false)
