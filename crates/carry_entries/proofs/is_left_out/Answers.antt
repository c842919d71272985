-- A case each. Assumes nothing.
use borrow.Author.Rules.{rules}
use Rattle.carry_entries.specs.Entries.{is_left_out}
use Rattle.carry_entries.proofs.is_left_out.Goals as goal

pub returns-in-LeftOut : goal.returns-in-LeftOut
unfolding is_left_out
returns-in-LeftOut c = search rules

pub returns-in-To : goal.returns-in-To
unfolding is_left_out
returns-in-To c = search rules

pub returns-in-Unmoved : goal.returns-in-Unmoved
unfolding is_left_out
returns-in-Unmoved c = search rules
