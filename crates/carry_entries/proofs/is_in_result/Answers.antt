-- A case each. Assumes nothing.
use borrow.Author.Rules.{rules}
use Rattle.carry_entries.specs.Entries.{is_in_result}
use Rattle.carry_entries.proofs.is_in_result.Goals as goal

pub returns-in-Some : goal.returns-in-Some
unfolding is_in_result
returns-in-Some c = search rules

pub returns-in-None : goal.returns-in-None
unfolding is_in_result
returns-in-None c = search rules
