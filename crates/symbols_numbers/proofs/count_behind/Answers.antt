-- The test says whether the position is one more. Assumes nothing.
use Rattle.symbols_numbers.proofs.Leaves.{behind_held, behind_else}
use mathlib.Core.Path.{sym, ◌∙◌}
use Rattle.symbols_numbers.proofs.count_behind.Goals as goal

pub returns-then-is_holder : goal.returns-then-is_holder
returns-then-is_holder c =
    let a = c.args in
    behind_held a.holders.now a.p _ (sym c.is_holder.ensures ∙ c.if-is_holder.true)

pub returns : goal.returns
returns c =
    let a = c.args in
    behind_else a.holders.now a.p _ (sym c.is_holder.ensures ∙ c.if-is_holder.false)
