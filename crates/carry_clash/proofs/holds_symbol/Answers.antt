-- A search for the first symbol of a section: none before k is in it. Assumes nothing.
use Rattle.elf_symbols.proofs.Symbols.{table_at}
use Rattle.symbols_taken.proofs.of_elf_check.Views.{view_table}
use Rattle.symbols_taken.proofs.Symbols.{view_symbols}
use Rattle.carry_clash.proofs.Cut.{symbol_there, symbol_next, symbol_none}
use native.Mathlib.Omega.{arith}
use mathlib.Core.Path.{refl}
use Rattle.carry_clash.proofs.holds_symbol.Goals as goal

pub loop-k-init : goal.loop-k-init
loop-k-init c = (omega arith, refl)

pub symbol_at-e-requires : goal.symbol_at-e-requires
symbol_at-e-requires c =
    let a = c.args in
    let t = view_table a.order a.compiled.now a.view c.requires.is c.requires.tabled in
    (c.requires.tabled, table_at a.order a.compiled.now a.view.symbols t, omega (arith, c.loop-k-test.true, view_symbols a.order a.compiled.now a.view c.requires))

pub returns-then-e-i : goal.returns-then-e-i
returns-then-e-i c =
    let a = c.args in
    let l = c.loop-k in
    symbol_there a.order a.compiled.now a.i l.k l.invariant.1 (omega (arith, c.loop-k-test.true, view_symbols a.order a.compiled.now a.view c.requires)) _ c.symbol_at-e.ensures c.if-e-i.true

pub loop-k-preserved : goal.loop-k-preserved
loop-k-preserved c =
    let a = c.args in
    let l = c.loop-k in
    let h = c.loop-k-test.true in
    (omega (arith, h), symbol_next a.order a.compiled.now a.i l.k l.invariant.1 (omega (arith, h, view_symbols a.order a.compiled.now a.view c.requires)) _ c.symbol_at-e.ensures c.if-e-i.false)

pub returns : goal.returns
returns c =
    let a = c.args in
    let l = c.loop-k in
    symbol_none a.order a.compiled.now a.i l.k l.invariant.1 (omega (arith, c.loop-k-test.false, view_symbols a.order a.compiled.now a.view c.requires))
