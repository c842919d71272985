-- The three bits, the binding and the section, added. Assumes nothing.
use Rattle.symbols_rows.specs.Rows.{kind_word}
use borrow.Author.Rules.{rules}
use Rattle.symbols_rows.proofs.kind_word.Goals as goal

pub returns : goal.returns
unfolding kind_word
returns c = search rules
