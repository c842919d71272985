-- An id that is in the group is written, and there is room for it; any other leaves the list as it is. Assumes nothing.
use Rattle.symbols_rows.proofs.Listing.{turn_yes, turn_no}
use native.Mathlib.Omega.{arith}
use mathlib.Core.Path.{sym, ◌∙◌}
use Rattle.symbols_rows.proofs.append_id.Goals as goal

pub overflow_mul-m : goal.overflow_mul-m
overflow_mul-m c =
    omega (arith, c.requires.2 (sym c.is_in_list.ensures ∙ c.if-is_in_list.true))

pub write16-requires : goal.write16-requires
write16-requires c =
    (c.requires.2 (sym c.is_in_list.ensures ∙ c.if-is_in_list.true), omega (arith, c.requires.1))

pub overflow_add-result : goal.overflow_add-result
overflow_add-result c =
    omega (arith, c.requires.2 (sym c.is_in_list.ensures ∙ c.if-is_in_list.true))

pub returns-then-is_in_list : goal.returns-then-is_in_list
returns-then-is_in_list c =
    let a = c.args in
    turn_yes _ a.i a.m a.list.now _ (sym c.is_in_list.ensures ∙ c.if-is_in_list.true) c.write16.ensures

pub returns : goal.returns
returns c =
    let a = c.args in
    turn_no _ a.i a.m a.list.now (sym c.is_in_list.ensures ∙ c.if-is_in_list.false)
