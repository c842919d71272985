-- `base_names::end_of` meets its contract: a name ends at the first zero byte. Assumes nothing.
use mathlib.Core.Path.{◌∙◌}
use Rattle.base_names.proofs.Words.{first_zero}
use Rattle.base_names.proofs.end_of.Goals as goal

pub returns : goal.returns
returns c =
    let a = c.args in
    c.first_byte.ensures ∙ first_zero a.t.now a.at
