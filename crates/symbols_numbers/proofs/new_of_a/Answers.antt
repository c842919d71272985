-- An index of the object's is read in the table, another has no symbol. Assumes nothing.
use Rattle.symbols_numbers.proofs.Leaves.{new_in_lem, new_past}
use mathlib.Core.Path.{sym, ap, ◌∙◌}
use Rattle.symbols_numbers.specs.Numbers.{new_symbol}
use Rattle.symbols_numbers.proofs.new_of_a.Goals as goal

pub returns-then-i-count : goal.returns-then-i-count
returns-then-i-count c =
    let a = c.args in
    c.new_symbol.ensures ∙ ap new_symbol c.half_at.ensures.0 ∙ sym (new_in_lem a.numbers.now a.first a.count a.k.0 c.if-i-count.true)

pub returns : goal.returns
returns c =
    let a = c.args in
    sym (new_past a.numbers.now a.first a.count a.k.0 c.if-i-count.false)
