-- A search for the first symbol at fault: none before k is. Assumes nothing.
use Rattle.base_lists.proofs.Ranges.{first_here, first_next, first_end}
use Rattle.elf_symbols.proofs.Symbols.{names_up, names_inside, names_are}
use Rattle.merge_inputs.proofs.of_elf_check.Views.{view_table}
use Rattle.symbols_taken.specs.Code.{is_homeless_in}
use Rattle.symbols_taken.proofs.Symbols.{view_symbols}
use Rattle.symbols_taken.proofs.Faults.{homeless_at_lem, homeless_none}
use native.Mathlib.Omega.{arith}
use mathlib.Core.Path.{◌≡◌, refl, sym, ◌∙◌}
use Rattle.symbols_taken.proofs.homeless_fault.Goals as goal

pub strings_of-strings-requires : goal.strings_of-strings-requires
strings_of-strings-requires c =
    let a = c.args in
    let t = view_table a.order a.assembled.now a.view c.requires.0.is c.requires.0.tabled in
    (names_up a.order a.assembled.now a.view.symbols t, names_inside a.order a.assembled.now a.view.symbols t)

pub loop-k-init : goal.loop-k-init
loop-k-init c = (omega arith, refl)

pub is_homeless-requires : goal.is_homeless-requires
is_homeless-requires c =
    let a = c.args in
    let t = view_table a.order a.assembled.now a.view c.requires.0.is c.requires.0.tabled in
    let h = c.loop-k-test.true in
    record {
      viewed = c.requires.0;
      names = names_are a.order a.assembled.now a.view.symbols t _ c.strings_of-strings.ensures;
      marks = c.requires.1;
      below = omega (arith, view_symbols a.order a.assembled.now a.view c.requires.0);
    }

pub returns-then-is_homeless : goal.returns-then-is_homeless
returns-then-is_homeless c =
    let a = c.args in
    let l = c.loop-k in
    let h = c.loop-k-test.true in
    let n = a.view.symbols.count in
    homeless_at_lem a.compiled a.view a.order a.assembled.now n (view_symbols a.order a.assembled.now a.view c.requires.0) l.k h (l.invariant.1 ∙ first_here (is_homeless_in a.compiled a.view a.order a.assembled.now) l.k n h (sym c.is_homeless.ensures ∙ c.if-is_homeless.true))

pub loop-k-preserved : goal.loop-k-preserved
loop-k-preserved c =
    let a = c.args in
    let l = c.loop-k in
    let h = c.loop-k-test.true in
    (omega arith, l.invariant.1 ∙ first_next (is_homeless_in a.compiled a.view a.order a.assembled.now) l.k a.view.symbols.count h (sym c.is_homeless.ensures ∙ c.if-is_homeless.false))

pub returns : goal.returns
returns c =
    let a = c.args in
    let l = c.loop-k in
    let h = c.loop-k-test.false in
    let n = a.view.symbols.count in
    let e : l.k ≡ n = omega arith in
    homeless_none a.compiled a.view a.order a.assembled.now n (view_symbols a.order a.assembled.now a.view c.requires.0) (l.invariant.1 ∙ first_end (is_homeless_in a.compiled a.view a.order a.assembled.now) l.k n h ∙ e)
