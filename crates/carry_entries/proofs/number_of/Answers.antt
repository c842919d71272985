-- The ids of C's symbols begin with 0, those of A's with `first`. Assumes nothing.
use native.Mathlib.Omega.{arith}
use Rattle.carry_entries.proofs.Goals.{number_compiled, number_assembled}
use Rattle.carry_entries.proofs.number_of.Goals as goal

pub number_at-requires : goal.number_at-requires
number_at-requires c = omega (arith, c.requires.long)

pub returns-then-side : goal.returns-then-side
returns-then-side c =
    let a = c.args in
    number_compiled a.side a.numbers.now a.info _ c.compiled_symbol-own.ensures _ (c.requires.start c.if-side.true) c.number_at.ensures

pub number_at-requires-2 : goal.number_at-requires-2
number_at-requires-2 c = c.requires.long

pub returns : goal.returns
returns c =
    let a = c.args in
    number_assembled a.side a.numbers.now a.info _ c.assembled_symbol-other.ensures _ c.number_at-2.ensures
