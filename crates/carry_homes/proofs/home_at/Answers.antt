-- The word that is read. Assumes nothing.
use native.Mathlib.Omega.{arith}
use Rattle.carry_homes.specs.Code.{home_in}
use Rattle.carry_homes.proofs.home_at.Goals as goal

pub returns : goal.returns
unfolding home_in
returns c =
    let read32 = c.read32 in
    (read32.ensures, omega arith)
