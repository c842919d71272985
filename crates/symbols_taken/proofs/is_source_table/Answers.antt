-- A table's header names its section; a section that is no table relocates none. Assumes nothing.
use Rattle.symbols_taken.proofs.Sections.{table_read, table_none}
use mathlib.Core.Path.{sym, ◌∙◌}
use Rattle.symbols_taken.proofs.is_source_table.Goals as goal

pub returns-then-is_table : goal.returns-then-is_table
returns-then-is_table c =
    let a = c.args in
    table_read a.order a.assembled.now a.view c.requires.0.is a.t _ _ (sym c.is_table.ensures ∙ c.if-is_table.true) c.section_at-h.ensures c.is_source.ensures

pub returns : goal.returns
returns c =
    let a = c.args in
    table_none a.order a.assembled.now a.t (sym c.is_table.ensures ∙ c.if-is_table.false)
