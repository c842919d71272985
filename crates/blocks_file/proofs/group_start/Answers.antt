-- Word k of row i is read where `group_in` says. Assumes nothing.
use Rattle.blocks_file.specs.Table.{group_in}
use native.Mathlib.Omega.{arith}
use borrow.Author.Rules.{rules}
use Rattle.blocks_file.proofs.group_start.Goals as goal

pub read32-requires : goal.read32-requires
read32-requires c = omega arith

pub returns : goal.returns
unfolding group_in
returns c = (c.read32.ensures, search rules)
