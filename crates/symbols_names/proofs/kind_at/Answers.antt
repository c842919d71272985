-- The first byte tells that the name is any other, or two comparisons tell its kind. Assumes nothing.
use Rattle.base_scope.specs.Text.{text}
use Rattle.symbols_names.proofs.KindLaws.{kind_other, kind_asked}
use mathlib.Core.Path.{sym, ◌∙◌}
use Rattle.symbols_names.proofs.kind_at.Goals as goal

pub returns-then-is_other : goal.returns-then-is_other
returns-then-is_other c =
    let a = c.args in
    kind_other a.t.now a.at c.if-at-t.true (sym c.is_other.ensures ∙ c.if-is_other.true)

pub returns : goal.returns
unfolding text
returns c =
    let a = c.args in
    kind_asked a.t.now a.at _ _ c.name_is-unnamed.ensures c.name_is-gp_disp.ensures
