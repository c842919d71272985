-- The symbol has its mark, or lies past the end. Assumes nothing.
use Rattle.base_packed.specs.Packed.{symbol_of}
use Rattle.symbols_taken.proofs.Marks.{marked_one, marked_past}
use Rattle.symbols_taken.proofs.mark_symbol.Goals as goal

pub returns-then-k-used : goal.returns-then-k-used
returns-then-k-used c =
    let a = c.args in
    marked_one _ (symbol_of a.info) a.used.now c.assembled_symbol-symbol.ensures c.if-k-used.true

pub returns-else-k-used : goal.returns-else-k-used
returns-else-k-used c =
    let a = c.args in
    marked_past _ (symbol_of a.info) a.used.now c.assembled_symbol-symbol.ensures c.if-k-used.false
