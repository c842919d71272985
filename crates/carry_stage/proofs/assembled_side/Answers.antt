-- A field each. Assumes nothing.
use Rattle.carry_stage.specs.Carry.{side_of_a}
use borrow.Author.Rules.{rules}
use Rattle.carry_stage.proofs.assembled_side.Goals as goal

pub returns : goal.returns
unfolding side_of_a
returns c = search rules
