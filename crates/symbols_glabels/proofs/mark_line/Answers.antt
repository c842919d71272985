-- The name is the value of the line. Assumes nothing.
use native.Mathlib.Omega.{arith}
use Rattle.symbols_glabels.proofs.mark_line.Goals as goal

pub value_at-name-requires : goal.value_at-name-requires
value_at-name-requires c = (omega arith, c.requires.2)

pub mark_named-requires : goal.mark_named-requires
mark_named-requires c =
    (c.requires.0, c.requires.1, omega arith, c.requires.3)

pub returns : goal.returns
returns c =
    let a = c.args in
    let m = c.mark_named in
    rw c.value_at-name.ensures at m.ensures
