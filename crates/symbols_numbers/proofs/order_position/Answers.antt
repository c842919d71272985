-- The test says whether the position is put. Assumes nothing.
use Rattle.symbols_numbers.proofs.Leaves.{ordered_held, ordered_else}
use mathlib.Core.Path.{sym, ◌∙◌}
use native.Mathlib.Omega.{arith}
use Rattle.symbols_numbers.proofs.order_position.Goals as goal

pub write16-requires : goal.write16-requires
write16-requires c =
    (c.requires.2 (sym c.is_holder.ensures ∙ c.if-is_holder.true), omega (arith, c.requires.1))

pub returns-then-is_holder : goal.returns-then-is_holder
returns-then-is_holder c =
    let a = c.args in
    ordered_held a.holders.now a.p a.place _ _ (sym c.is_holder.ensures ∙ c.if-is_holder.true)
    c.write16.ensures

pub returns : goal.returns
returns c =
    let a = c.args in
    ordered_else a.holders.now a.p a.place _ (sym c.is_holder.ensures ∙ c.if-is_holder.false)
