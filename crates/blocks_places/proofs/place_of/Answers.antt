-- `blocks_places::place_of` meets its contract: the place is the second word of the row. Assumes nothing.
use Rattle.blocks_places.specs.Table.{place_in}
use borrow.Author.Rules.{rules}
use native.Mathlib.Omega.{arith}
use Rattle.blocks_places.proofs.place_of.Goals as goal

pub read32-requires : goal.read32-requires
read32-requires c = omega arith

pub returns : goal.returns
unfolding place_in
returns c = (c.read32.ensures, search rules)
