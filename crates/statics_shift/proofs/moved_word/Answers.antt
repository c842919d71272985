-- A word that moves is shifted; any other stays. Assumes nothing.
use Rattle.statics_shift.proofs.Shift.{word_moved, word_stays}
use mathlib.Core.Path.{◌∙◌}
use Rattle.statics_shift.proofs.moved_word.Goals as goal

pub returns-then-is_moved : goal.returns-then-is_moved
returns-then-is_moved c =
    let a = c.args in
    c.shifted_offset.ensures ∙ word_moved a.words.now a.old a.new a.i _ c.is_moved.ensures c.if-is_moved.true

pub returns : goal.returns
returns c =
    let a = c.args in
    word_stays a.words.now a.old a.new a.i _ c.is_moved.ensures c.if-is_moved.false
