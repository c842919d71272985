-- An index of the object's is read in the table, another has no symbol. Assumes nothing.
use Rattle.symbols_numbers.proofs.Leaves.{new_first, new_past}
use mathlib.Core.Path.{sym, ap, ◌∙◌}
use Rattle.symbols_numbers.specs.Numbers.{new_symbol}
use Rattle.symbols_numbers.proofs.new_of_c.Goals as goal

pub returns-then-i-count : goal.returns-then-i-count
returns-then-i-count c =
    let a = c.args in
    c.new_symbol.ensures ∙ ap new_symbol c.half_at.ensures.0 ∙ sym (new_first a.numbers.now a.count a.k.0 c.if-i-count.true)

pub returns : goal.returns
returns c =
    let a = c.args in
    sym (new_past a.numbers.now 0 a.count a.k.0 c.if-i-count.false)
