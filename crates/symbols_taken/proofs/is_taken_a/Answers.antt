-- A local without a mark is not taken; any other symbol is, where its name is no helper's. Assumes nothing.
use Rattle.symbols_taken.proofs.Symbols.{at_entries, at_mark, local_read, taken_unused, taken_kept}
use mathlib.Core.Path.{sym, ◌∙◌}
use Rattle.symbols_taken.proofs.is_taken_a.Goals as goal

pub is_unused_local-requires : goal.is_unused_local-requires
is_unused_local-requires c =
    let a = c.args in
    at_mark a.order a.assembled.now a.view a.strings.now a.used.now a.k c.requires

pub returns-then-is_unused_local : goal.returns-then-is_unused_local
returns-then-is_unused_local c =
    let a = c.args in
    taken_unused a.order a.assembled.now a.k (sym (local_read a.order a.assembled.now a.view a.strings.now a.used.now a.k c.requires _ c.is_unused_local.ensures) ∙ c.if-is_unused_local.true)

pub is_helper-requires : goal.is_helper-requires
is_helper-requires c =
    let a = c.args in
    (at_entries a.order a.assembled.now a.view a.strings.now a.used.now a.k c.requires, c.requires.below)

pub returns : goal.returns
returns c =
    let a = c.args in
    taken_kept a.order a.assembled.now a.k _ (sym (local_read a.order a.assembled.now a.view a.strings.now a.used.now a.k c.requires _ c.is_unused_local.ensures) ∙ c.if-is_unused_local.false) c.is_helper.ensures
