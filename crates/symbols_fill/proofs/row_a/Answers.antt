-- By the test whether it is taken. Assumes nothing.
use Rattle.elf_symbols.proofs.Symbols.{table_at}
use Rattle.elf_check.proofs.Views.{view_table}
use Rattle.symbols_holders.specs.of_symbols_names.Names.{kind_of}
use Rattle.symbols_holders.proofs.of_symbols_names.Names.{name_read}
use Rattle.symbols_fill.specs.Fill.{row_a}
use Rattle.symbols_fill.proofs.Origins.{row_taken, row_none, taken_fits, none_fits}
use mathlib.Core.Path.{sym, ap, ◌∙◌}
use Rattle.symbols_fill.proofs.row_a.Goals as goal

pub symbol_at-entry-requires : goal.symbol_at-entry-requires
symbol_at-entry-requires c =
    let a = c.args in
    let q = c.requires.0 in
    let t = view_table a.filling.inputs.order a.assembled.now a.filling.inputs.assembled q.viewed.is q.viewed.tabled in
    (q.viewed.tabled, table_at a.filling.inputs.order a.assembled.now a.filling.inputs.assembled.symbols t, q.below)

pub returns-then-is_taken_a : goal.returns-then-is_taken_a
unfolding row_a
returns-then-is_taken_a c =
    let a = c.args in
    let e = c.symbol_at-entry.ensures in
    let kind = c.kind_at-kind.ensures ∙ ap kind_of (name_read a.filling.inputs.order a.assembled.now _ _ a.k c.requires.1.names (ap (λ x. x.st_name) e)) in
    let p = c.place_a.ensures in
    (row_taken _ _ _ _ _ _ (sym c.is_taken_a.ensures ∙ c.if-is_taken_a.true) c.taken_row.ensures p.0 kind, taken_fits _ _ _ c.taken_row.ensures p.1)

pub returns : goal.returns
unfolding row_a
returns c =
    (row_none _ _ _ _ (sym c.is_taken_a.ensures ∙ c.if-is_taken_a.false) c.no_row.ensures, none_fits _ c.no_row.ensures)
