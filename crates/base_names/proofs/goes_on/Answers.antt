-- Past the table a byte counts as zero. Assumes nothing.
use Rattle.base_lists.specs.Strings.{zero_at}
use mathlib.Core.Path.{refl}
use native.Mathlib.Omega.{arith}
use Rattle.base_names.proofs.Parts.{past_zero}
use Rattle.base_names.proofs.goes_on.Goals as goal

pub returns-then-at-t : goal.returns-then-at-t
returns-then-at-t c = let a = c.args in past_zero a.t.now a.at (omega arith)

pub returns : goal.returns
unfolding zero_at
returns c = refl
