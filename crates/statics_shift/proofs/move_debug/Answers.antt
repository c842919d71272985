-- The words of the header are written anew behind magic and vstamp. Assumes nothing.
use Rattle.statics_shift.proofs.Shift.{debug_moved}
use Rattle.statics_shift.proofs.move_debug.Goals as goal

pub returns : goal.returns
returns c =
    let a = c.args in
    debug_moved a.order a.debug.now a.old a.new c.new-h.result c.moved_words-words.result _ c.new-h.ensures c.moved_words-words.ensures c.write_words.ensures
