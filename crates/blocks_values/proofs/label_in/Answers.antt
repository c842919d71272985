-- `blocks_values::label_in` meets its contract: the label is the part up to the first space. Assumes nothing.
use Rattle.blocks_values.proofs.Values.{space_high, label_up_to}
use native.Mathlib.Omega.{arith}
use Rattle.blocks_values.proofs.label_in.Goals as goal

pub slice_bounds-result-end : goal.slice_bounds-result-end
slice_bounds-result-end c = omega (arith, space_high c.args.v.now)

pub returns : goal.returns
returns c =
    let s = c.space_in-e in
    label_up_to c.args.v.now s.result s.ensures
