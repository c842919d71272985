-- A search for the first section at fault: none before i is. Assumes nothing.
use Rattle.base_lists.proofs.Ranges.{first_here, first_next, first_end}
use Rattle.elf_readers.specs.Readers.{section_count}
use Rattle.symbols_taken.proofs.of_elf_check.Views.{view_count}
use Rattle.carry_clash.specs.Clash.{is_cut}
use native.Mathlib.Omega.{arith}
use Prim.Native.Nat.{◌<◌}
use mathlib.Core.Path.{◌≡◌, refl, sym, ◌∙◌}
use Rattle.carry_clash.proofs.first_cut.Goals as goal

pub loop-i-init : goal.loop-i-init
loop-i-init c = (omega arith, refl)

pub is_cut-requires : goal.is_cut-requires
is_cut-requires c =
    let a = c.args in
    (c.requires, omega (arith, c.loop-i-test.true, view_count a.order a.compiled.now a.view c.requires.is))

pub returns-then-is_cut : goal.returns-then-is_cut
returns-then-is_cut c =
    let a = c.args in
    let l = c.loop-i in
    let h : l.i < section_count a.order a.compiled.now = omega (arith, c.loop-i-test.true, view_count a.order a.compiled.now a.view c.requires.is) in
    sym (l.invariant.1 ∙ first_here (is_cut a.order a.compiled.now a.stay) l.i (section_count a.order a.compiled.now) h (sym c.is_cut.ensures ∙ c.if-is_cut.true))

pub loop-i-preserved : goal.loop-i-preserved
loop-i-preserved c =
    let a = c.args in
    let l = c.loop-i in
    let h : l.i < section_count a.order a.compiled.now = omega (arith, c.loop-i-test.true, view_count a.order a.compiled.now a.view c.requires.is) in
    (omega (arith, c.loop-i-test.true), l.invariant.1 ∙ first_next (is_cut a.order a.compiled.now a.stay) l.i (section_count a.order a.compiled.now) h (sym c.is_cut.ensures ∙ c.if-is_cut.false))

pub returns : goal.returns
returns c =
    let a = c.args in
    let l = c.loop-i in
    let n = view_count a.order a.compiled.now a.view c.requires.is in
    let e : a.view.sections ≡ l.i = omega (arith, c.loop-i-test.false, l.invariant.0) in
    e ∙ sym (l.invariant.1 ∙ first_end (is_cut a.order a.compiled.now a.stay) l.i (section_count a.order a.compiled.now) (omega (arith, c.loop-i-test.false, n)))
