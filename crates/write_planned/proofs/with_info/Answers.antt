-- Field by field. Assumes nothing.
use Rattle.write_planned.specs.Headings.{with_info}
use borrow.Author.Rules.{rules}
use Rattle.write_planned.proofs.with_info.Goals as goal

pub returns : goal.returns
unfolding with_info
returns c =
    search rules
