-- A byte stands in the stored name, or behind it in the tail. Assumes nothing.
use Rattle.symbols_names.proofs.Tails.{joined_front, joined_behind, joined_rest}
use mathlib.Core.Path.{◌∙◌}
use Rattle.symbols_names.proofs.joined_byte.Goals as goal

pub returns-then-i-n : goal.returns-then-i-n
returns-then-i-n c =
    let a = c.args in
    joined_front a.stored.now _ a.i c.if-i-n.true

pub tail_byte-requires : goal.tail_byte-requires
tail_byte-requires c =
    let a = c.args in
    let q = c.requires in
    (q.0, joined_rest a.stored.now _ a.i q.1 c.if-i-n.false)

pub returns : goal.returns
returns c =
    let a = c.args in
    c.tail_byte.ensures ∙ joined_behind a.stored.now _ a.i c.if-i-n.false
