-- The three tests of `is_unmoved_in`, the section first. Assumes nothing.
use Rattle.symbols_taken.proofs.Symbols.{at_entries}
use Rattle.symbols_taken.proofs.Faults.{unmoved_other, unmoved_read, unmoved_left}
use mathlib.Core.Path.{sym, ◌∙◌}
use Rattle.symbols_taken.proofs.is_unmoved.Goals as goal

pub symbol_at-entry-requires : goal.symbol_at-entry-requires
symbol_at-entry-requires c =
    let a = c.args in
    let e = at_entries a.order a.assembled.now a.view a.strings.now a.used.now a.k c.requires.0 in
    (e.tabled, e.from, c.requires.0.below)

pub returns-then-is_taken_a : goal.returns-then-is_taken_a
returns-then-is_taken_a c =
    let a = c.args in
    unmoved_read a.order a.assembled.now a.runs a.late.now a.blocks a.k a.view c.requires.0.viewed.is _ _ c.symbol_at-entry.ensures c.is_late.ensures _ c.if-is_late.true (sym c.is_taken_a.ensures ∙ c.if-is_taken_a.true) c.is_unmoved_value.ensures

pub returns-then-is_late : goal.returns-then-is_late
returns-then-is_late c =
    let a = c.args in
    unmoved_left a.order a.assembled.now a.runs a.late.now a.blocks a.k (sym c.is_taken_a.ensures ∙ c.if-is_taken_a.false)

pub returns : goal.returns
returns c =
    let a = c.args in
    unmoved_other a.order a.assembled.now a.runs a.late.now a.blocks a.k a.view c.requires.0.viewed.is _ _ c.symbol_at-entry.ensures c.is_late.ensures c.if-is_late.false
