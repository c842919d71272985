-- Both tests, the second where the first holds. Assumes nothing.
use mathlib.Core.Path.{sym, ◌∙◌}
use mathlib.Core.List.{◌++◌}
use lib.ListN.{length}
use Rattle.base_lists.specs.Strings.{same, name_end}
use lib.Dec.{eqb}
use Rattle.base_names.proofs.Parts.{and_then, and_not}
use Rattle.base_names.proofs.is_whole.Goals as goal

pub returns-then-is_joined : goal.returns-then-is_joined
returns-then-is_joined c =
    let a = c.args in
    let n = length a.part.now in
    c.is_zero_free.ensures
    ∙ and_then (same a.part.now (a.front.now ++ a.back.now)) (eqb (name_end a.part.now 0) n) (sym c.is_joined.ensures ∙ c.if-is_joined.true)

pub returns : goal.returns
returns c =
    let a = c.args in
    let n = length a.part.now in
    and_not (same a.part.now (a.front.now ++ a.back.now)) (eqb (name_end a.part.now 0) n) (sym c.is_joined.ensures ∙ c.if-is_joined.false)
