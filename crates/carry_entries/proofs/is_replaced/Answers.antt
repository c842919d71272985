-- In the section that leaves words out, by the rows. Assumes nothing.
use Rattle.base_scope.specs.Codes.{leaves_out}
use Rattle.carry_entries.proofs.Goals.{and_read, and_left}
use Rattle.carry_entries.proofs.is_replaced.Goals as goal

pub returns-then-leaves_out : goal.returns-then-leaves_out
returns-then-leaves_out c =
    let leaves-out = c.leaves_out in
    and_read _ (leaves_out c.args.code) _ _ leaves-out.ensures c.if-leaves_out.true c.is_word.ensures

pub returns : goal.returns
returns c = and_left _ (leaves_out c.args.code) _ c.leaves_out.ensures c.if-leaves_out.false
