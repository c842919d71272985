-- Field by field. Assumes nothing.
use Rattle.write_merged.specs.Merged.{opened_as}
use borrow.Author.Rules.{rules}
use Rattle.write_merged.proofs.table_heading.Goals as goal

pub returns : goal.returns
unfolding opened_as
returns c =
    search rules
