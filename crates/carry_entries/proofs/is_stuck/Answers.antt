-- A case each. Assumes nothing.
use borrow.Author.Rules.{rules}
use Rattle.carry_entries.specs.Entries.{is_stuck}
use Rattle.carry_entries.proofs.is_stuck.Goals as goal

pub returns-in-Unmoved : goal.returns-in-Unmoved
unfolding is_stuck
returns-in-Unmoved c = search rules

pub returns-in-To : goal.returns-in-To
unfolding is_stuck
returns-in-To c = search rules

pub returns-in-LeftOut : goal.returns-in-LeftOut
unfolding is_stuck
returns-in-LeftOut c = search rules
