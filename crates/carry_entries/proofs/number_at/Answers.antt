-- The number of its id, or none. Assumes nothing.
use native.Mathlib.Omega.{arith}
use Rattle.carry_entries.proofs.Goals.{number_in, number_past}
use Rattle.carry_entries.proofs.number_at.Goals as goal

pub returns-then-i-count : goal.returns-then-i-count
returns-then-i-count c =
    let a = c.args in
    number_in a.numbers.now a.first a.count a.k c.if-i-count.true _ c.half_at.ensures.0

pub returns : goal.returns
returns c =
    let a = c.args in
    number_past a.numbers.now a.first a.count a.k (omega (arith, c.if-i-count.false))
