-- The colon stands first; the digit at i has those behind it to the end of the tail. Assumes nothing.
use Rattle.symbols_names.proofs.Tails.{tail_colon, tail_digit}
use mathlib.Core.Path.{◌∙◌}
use Rattle.symbols_names.proofs.tail_byte.Goals as goal

pub returns-then-i-eq0 : goal.returns-then-i-eq0
returns-then-i-eq0 c = tail_colon c.args.number c.args.i c.if-i-eq0.true c.requires.1

pub returns : goal.returns
returns c =
    c.digit_before.ensures ∙ tail_digit c.args.number c.args.i _ c.tail_length-n.ensures.0 c.requires.0 c.if-i-eq0.false c.requires.1
