-- By the count. Assumes nothing.
use Rattle.symbols_names.proofs.KindLaws.{static_counted, static_plain}
use Rattle.symbols_names.proofs.static_kind.Goals as goal

pub returns-then-s-ne0 : goal.returns-then-s-ne0
returns-then-s-ne0 c =
    let a = c.args in
    static_counted a.compiled.now a.s c.if-s-ne0.true

pub returns : goal.returns
returns c =
    let a = c.args in
    static_plain a.compiled.now a.s _ c.if-s-ne0.false c.kind_at.ensures
