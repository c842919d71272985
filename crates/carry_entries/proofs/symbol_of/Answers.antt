-- The symbols of C begin with id 0, those of A with `first`. Assumes nothing.
use native.Mathlib.Omega.{arith}
use Rattle.carry_entries.proofs.Goals.{symbol_compiled, symbol_assembled}
use Rattle.carry_entries.proofs.symbol_of.Goals as goal

pub new_of_c-requires : goal.new_of_c-requires
new_of_c-requires c = omega (arith, c.requires.long)

pub returns-then-side : goal.returns-then-side
returns-then-side c =
    let if1 = c.if-side in
    let compiled-symbol = c.compiled_symbol in
    let new-of-c = c.new_of_c in
    let a = c.args in
    symbol_compiled a.side a.numbers.now a.info (c.requires.start if1.true) _ compiled-symbol.ensures _ new-of-c.ensures

pub new_of_a-requires : goal.new_of_a-requires
new_of_a-requires c = c.requires.long

pub returns : goal.returns
returns c =
    let assembled-symbol = c.assembled_symbol in
    let new-of-a = c.new_of_a in
    let a = c.args in
    symbol_assembled a.side a.numbers.now a.info _ assembled-symbol.ensures _ new-of-a.ensures
