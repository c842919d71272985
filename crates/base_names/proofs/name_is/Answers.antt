-- `base_names::name_is` meets its contract: a name that ends apart from s is not s; else the call that compares with a front and a back answers, with nothing as the back. Assumes nothing.
use Rattle.base_names.proofs.Ends.{apart_name}
use mathlib.Core.Path.{sym, ap, ◌∙◌}
use mathlib.Core.List.{append-nil}
use Rattle.base_lists.specs.Strings.{same, name_at}
use Rattle.base_names.proofs.name_is.Goals as goal

pub returns-then-ends_apart : goal.returns-then-ends_apart
returns-then-ends_apart c =
    let a = c.args in
    sym (apart_name a.t.now a.at a.s.now (sym c.ends_apart.ensures ∙ c.if-ends_apart.true))

pub returns : goal.returns
returns c =
    let a = c.args in
    c.name_joined.ensures ∙ ap (same (name_at a.t.now a.at)) (append-nil a.s.now)
