-- A table that relocates none of the five uses no symbol. Assumes nothing.
use Rattle.symbols_taken.specs.Code.{used_in}
use Rattle.symbols_taken.proofs.Marks.{marked_none, used_none}
use mathlib.Core.Path.{sym, ◌∙◌}
use Rattle.symbols_taken.proofs.mark_table.Goals as goal

pub mark_entries-requires : goal.mark_entries-requires
mark_entries-requires c =
    (c.requires.0.named.headed, c.requires.1, sym c.is_source_table.ensures ∙ c.if-is_source_table.true)

pub returns-then-is_source_table : goal.returns-then-is_source_table
returns-then-is_source_table c = c.mark_entries.ensures

pub returns-else-is_source_table : goal.returns-else-is_source_table
returns-else-is_source_table c =
    let a = c.args in
    let f = sym c.is_source_table.ensures ∙ c.if-is_source_table.false in
    marked_none (used_in a.order a.assembled.now a.t) a.used.now (used_none a.order a.assembled.now a.t f)
