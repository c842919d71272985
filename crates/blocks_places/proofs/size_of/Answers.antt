-- `blocks_places::size_of` meets its contract: the size is the first word of the row. Assumes nothing.
use Rattle.blocks_places.specs.Table.{held_size}
use borrow.Author.Rules.{rules}
use native.Mathlib.Omega.{arith}
use Rattle.blocks_places.proofs.size_of.Goals as goal

pub read32-requires : goal.read32-requires
read32-requires c = omega arith

pub returns : goal.returns
unfolding held_size
returns c = (c.read32.ensures, search rules)
