-- A static with no count is no namesake; another is one where its stored name is this one. Assumes nothing.
use Rattle.statics_table.specs.Statics.{is_namesake}
use Rattle.statics_table.proofs.Statics.{namesake_uncounted, namesake_counted}
use mathlib.Core.Path.{ap, ◌∙◌}
use Rattle.statics_table.proofs.is_namesake.Goals as goal

pub returns-then-s-eq0 : goal.returns-then-s-eq0
returns-then-s-eq0 c =
    let a = c.args in
    namesake_uncounted a.file.now a.name.now c.read-s.result c.if-s-eq0.true ∙ ap (is_namesake a.file.now a.name.now) c.read-s.ensures

pub returns : goal.returns
returns c =
    let a = c.args in
    c.name_is.ensures ∙ namesake_counted a.file.now a.name.now c.read-s.result c.if-s-eq0.false
    ∙ ap (is_namesake a.file.now a.name.now) c.read-s.ensures
