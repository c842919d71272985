-- One read. Assumes nothing.
use Rattle.symbols_rows.specs.Rows.{half_in}
use borrow.Author.Rules.{rules}
use Rattle.symbols_rows.proofs.half_at.Goals as goal

pub returns : goal.returns
unfolding half_in
returns c = (c.read16.ensures.0, search rules)
