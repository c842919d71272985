-- The test is the definition's. Assumes nothing.
use Rattle.symbols_glabels.specs.Words.{new_word}
use borrow.Author.Tests.{eq-eqb, ne_eqb}
use Rattle.symbols_glabels.proofs.new_word.Goals as goal

pub returns-then-put-eq0 : goal.returns-then-put-eq0
unfolding new_word
returns-then-put-eq0 c = rw (eq-eqb _ _ c.if-put-eq0.true)

pub returns : goal.returns
unfolding new_word
returns c = rw (ne_eqb _ _ c.if-put-eq0.false)
