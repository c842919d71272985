-- Nothing for 0, else a colon and the digits. Assumes nothing.
use Rattle.base_lists.proofs.Written.{written_none, written_then, written_as}
use Rattle.base_scope.specs.Text.{text}
use Rattle.statics_names.proofs.Names.{tail_none, tail_some}
use Rattle.statics_names.proofs.append_tail.Goals as goal

pub returns-then-number-eq0 : goal.returns-then-number-eq0
returns-then-number-eq0 c =
    let a = c.args in
    written_as _ _ _ _ _ _ (tail_none a.number c.if-number-eq0.true) (written_none a.out.now a.at)

pub returns : goal.returns
unfolding text
returns c =
    let a = c.args in
    written_as _ _ _ _ _ _ (tail_some a.number c.if-number-eq0.false) (written_then _ _ _ _ _ _ _ _ c.append-a.ensures c.append_decimal.ensures)
