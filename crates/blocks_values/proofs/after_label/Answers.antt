-- `blocks_values::after_label` meets its contract: the label ends at the first space. Assumes nothing.
use Rattle.blocks_values.proofs.Values.{space_high, behind_space}
use native.Mathlib.Omega.{arith}
use mathlib.Core.Path.{◌∙◌}
use Rattle.blocks_values.proofs.after_label.Goals as goal

pub behind-requires : goal.behind-requires
behind-requires c = omega (arith, space_high c.args.v.now)

pub returns : goal.returns
returns c =
    let s = c.space_in in
    c.behind.ensures ∙ behind_space c.args.v.now s.result s.ensures
