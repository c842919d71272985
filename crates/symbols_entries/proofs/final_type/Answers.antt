-- The flag says which. Assumes nothing.
use native.Mathlib.Omega.{arith}
use Rattle.symbols_entries.proofs.final_type.Goals as goal

pub returns : goal.returns
returns c = (rw c.if-gp_disp.false c.type_of.ensures, omega (arith, c.type_of.ensures))
