-- `blocks_places::is_taken` meets its contract: the first word of the row, its size, is not 0. Assumes nothing.
use Rattle.blocks_places.specs.Table.{held_size, place_in}
use native.Mathlib.Omega.{arith}
use lib.Dec.{ltb}
use mathlib.Core.Path.{ap}
use Rattle.blocks_places.proofs.is_taken.Goals as goal

pub read32-requires : goal.read32-requires
read32-requires c = omega arith

pub returns : goal.returns
unfolding held_size place_in
returns c = ap (ltb 0) c.read32.ensures
