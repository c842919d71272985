-- `blocks_values::is_hex_digit` meets its contract: a digit is one, and what is no digit is one where it lies from a to f. Assumes nothing.
use Rattle.blocks_values.proofs.Values.{hex_digit_lem, hex_letter}
use mathlib.Core.Path.{sym, ◌∙◌}
use Rattle.blocks_values.proofs.is_hex_digit.Goals as goal

pub returns-then-is_digit : goal.returns-then-is_digit
returns-then-is_digit c = sym (hex_digit_lem c.args.x (sym c.is_digit.ensures ∙ c.if-is_digit.true))

pub returns : goal.returns
returns c =
    c.both.ensures
    ∙ sym (hex_letter c.args.x (sym c.is_digit.ensures ∙ c.if-is_digit.false))
