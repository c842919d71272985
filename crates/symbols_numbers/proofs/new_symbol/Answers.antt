-- The test says which case of `new_symbol` holds. Assumes nothing.
use Rattle.symbols_numbers.proofs.Leaves.{symbol_none, symbol_some}
use mathlib.Core.Path.{refl, sym}
use Rattle.symbols_numbers.proofs.new_symbol.Goals as goal

pub returns-then-number-eq0 : goal.returns-then-number-eq0
returns-then-number-eq0 c = sym (symbol_none c.args.number c.if-number-eq0.true)

pub returns : goal.returns
returns c = sym (symbol_some c.args.number _ c.if-number-eq0.false refl)
