-- By the test whether it is taken. Assumes nothing.
use Rattle.symbols_holders.specs.of_symbols_names.Names.{kind_of}
use Rattle.symbols_holders.proofs.of_symbols_names.Names.{name_read}
use Rattle.symbols_fill.specs.Fill.{row_c}
use Rattle.symbols_fill.proofs.Origins.{row_taken, row_none, taken_fits, none_fits}
use mathlib.Core.Path.{sym, ap, ◌∙◌}
use Rattle.symbols_fill.proofs.row_c.Goals as goal

pub returns-then-is_taken_c : goal.returns-then-is_taken_c
unfolding row_c
returns-then-is_taken_c c =
    let a = c.args in
    let e = c.symbol_at-entry.ensures in
    let kind = c.kind_at-kind.ensures ∙ ap kind_of (name_read a.order a.compiled.now _ _ a.k c.requires.0.names (ap (λ x. x.st_name) e)) in
    let p = c.place_c.ensures in
    (row_taken _ _ _ _ _ _ (sym c.is_taken_c.ensures ∙ c.if-is_taken_c.true) c.taken_row.ensures p.0 kind, taken_fits _ _ _ c.taken_row.ensures p.1)

pub returns : goal.returns
unfolding row_c
returns c =
    (row_none _ _ _ _ (sym c.is_taken_c.ensures ∙ c.if-is_taken_c.false) c.no_row.ensures, none_fits _ c.no_row.ensures)
