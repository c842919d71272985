-- A word has 64 bits. Assumes nothing.
use lib.Count.{trailing_le}
use native.Mathlib.Omega.{arith}
use mathlib.Core.Path.{refl}
use Rattle.base_names.proofs.first_mark.Goals as goal

pub overflow_cast-result : goal.overflow_cast-result
overflow_cast-result c = record { fits = omega (arith, trailing_le 64 c.args.marks) }

pub returns : goal.returns
returns c = refl
