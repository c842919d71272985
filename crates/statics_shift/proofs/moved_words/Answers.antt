-- After i turns the array holds the first i words, and zeros behind them. Assumes nothing.
use Rattle.statics_shift.proofs.Shift.{some_none, some_put, some_all}
use native.Mathlib.Omega.{arith}
use mathlib.Core.Path.{◌≡◌, ◌∙◌}
use lib.ListN.{length}
use Rattle.statics_shift.proofs.moved_words.Goals as goal
use Rattle.statics_shift.proofs.moved_words.Goals.{Start}

-- what owning the header tells of its array
long : (c : Start) → length c.args.h.words ≡ 23
long c = c.well_formed.0.1.1.1.1.0.1.0.1

pub loop-i-init : goal.loop-i-init
loop-i-init c =
    let a = c.args in
    (omega arith, some_none a.h.words a.old a.new)

pub moved_word-requires : goal.moved_word-requires
moved_word-requires c = (long (goal.at.moved_word-requires c).Start, omega arith)

pub loop-i-preserved : goal.loop-i-preserved
loop-i-preserved c =
    let a = c.args in
    let l = c.loop-i in
    (omega arith, some_put a.h.words a.old a.new l.i l.moved _ l.invariant.1 c.moved_word.ensures (omega arith))

pub returns : goal.returns
returns c =
    let a = c.args in
    let l = c.loop-i in
    l.invariant.1 ∙ some_all a.h.words a.old a.new l.i (omega arith)
