-- The word that is read. Assumes nothing.
use native.Mathlib.Omega.{arith}
use Rattle.carry_homes.specs.Code.{listed_table}
use Rattle.carry_homes.proofs.table_at.Goals as goal

pub returns : goal.returns
unfolding listed_table
returns c =
    let read32 = c.read32 in
    (read32.ensures, omega arith)
