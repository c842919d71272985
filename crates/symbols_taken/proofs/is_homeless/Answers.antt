-- A taken symbol is no helper, so its section decides; any other is at fault where it is used and a helper. Assumes nothing.
use borrow.Author.Tests.{eq-eqb, ne_eqb}
use Rattle.symbols_taken.proofs.Marks.{mark_read}
use Rattle.symbols_taken.proofs.Symbols.{at_entries, at_mark}
use Rattle.symbols_taken.proofs.Faults.{homeless_taken, homeless_used, homeless_not}
use native.Mathlib.Omega.{arith}
use mathlib.Core.Path.{sym, ◌∙◌}
use Rattle.symbols_taken.proofs.is_homeless.Goals as goal

pub symbol_at-entry-requires : goal.symbol_at-entry-requires
symbol_at-entry-requires c =
    let a = c.args in
    let e = at_entries a.order a.assembled.now a.view a.strings.now a.used.now a.k c.requires in
    (e.tabled, e.from, c.requires.below)

pub returns-then-is_taken_a : goal.returns-then-is_taken_a
returns-then-is_taken_a c =
    let a = c.args in
    homeless_taken a.compiled a.view a.order a.assembled.now a.k _ _ (sym c.is_taken_a.ensures ∙ c.if-is_taken_a.true) c.symbol_at-entry.ensures c.lacks_target.ensures

pub bounds-used-k : goal.bounds-used-k
bounds-used-k c =
    let a = c.args in
    omega (arith, at_mark a.order a.assembled.now a.view a.strings.now a.used.now a.k c.requires)

pub is_helper-requires : goal.is_helper-requires
is_helper-requires c =
    let a = c.args in
    (at_entries a.order a.assembled.now a.view a.strings.now a.used.now a.k c.requires, c.requires.below)

pub returns-then-used-k-eq1 : goal.returns-then-used-k-eq1
returns-then-used-k-eq1 c =
    let a = c.args in
    let m = sym (mark_read a.order a.assembled.now a.used.now c.requires.marks a.k c.requires.below) ∙ eq-eqb _ _ c.if-used-k-eq1.true in
    homeless_used a.compiled a.view a.order a.assembled.now a.k (sym c.is_taken_a.ensures ∙ c.if-is_taken_a.false) _ m c.is_helper.ensures

pub returns : goal.returns
returns c =
    let a = c.args in
    let m = sym (mark_read a.order a.assembled.now a.used.now c.requires.marks a.k c.requires.below) ∙ ne_eqb _ _ c.if-used-k-eq1.false in
    homeless_not a.compiled a.view a.order a.assembled.now a.k (sym c.is_taken_a.ensures ∙ c.if-is_taken_a.false) m
