-- The word at its place, or 0 by the test. Assumes nothing.
use Rattle.symbols_entries.proofs.Entries.{word_placed, word_none}
use Rattle.symbols_glabels.specs.Words.{mark_in}
use mathlib.Core.Path.{sym, ◌∙◌}
use Rattle.symbols_entries.proofs.word_of.Goals as goal

pub returns-then-is_placed : goal.returns-then-is_placed
unfolding mark_in
returns-then-is_placed c =
    let a = c.args in
    word_placed a.marks.now a.index a.k _ (sym c.is_placed.ensures ∙ c.if-is_placed.true) c.read32.ensures

pub returns : goal.returns
returns c =
    let a = c.args in
    word_none a.marks.now a.index a.k (sym c.is_placed.ensures ∙ c.if-is_placed.false)
