-- What stays has no fault here. Assumes nothing.
use Rattle.carry_clash.proofs.Cut.{missed_early, missed_late}
use Rattle.carry_clash.proofs.is_missed.Goals as goal

pub returns-then-i-stay : goal.returns-then-i-stay
returns-then-i-stay c =
    let args = c.args in
    let if1 = c.if-i-stay in
    missed_early args.order args.compiled.now args.i args.stay if1.true

pub returns : goal.returns
returns c =
    let args = c.args in
    let if1 = c.if-i-stay in
    let holds-symbol = c.holds_symbol in
    missed_late args.order args.compiled.now args.i args.stay if1.false _ holds-symbol.ensures
