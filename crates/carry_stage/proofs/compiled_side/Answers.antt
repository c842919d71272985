-- A field each. Assumes nothing.
use Rattle.carry_stage.specs.Carry.{side_of_c}
use borrow.Author.Rules.{rules}
use Rattle.carry_stage.proofs.compiled_side.Goals as goal

pub returns : goal.returns
unfolding side_of_c
returns c = search rules
