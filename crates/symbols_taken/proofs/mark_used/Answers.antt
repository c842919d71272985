-- The part of the marks is filled and put back. Assumes nothing.
use Rattle.elf_symbols.specs.Symbols.{symbol_count}
use Rattle.symbols_taken.proofs.Marks.{used_put}
use Rattle.symbols_taken.proofs.Symbols.{view_symbols}
use native.Mathlib.Nat.{sub-zero}
use native.Mathlib.Omega.{arith}
use Prim.Native.Nat.{◌-◌}
use mathlib.Core.Path.{◌≡◌, ◌∙◌}
use Rattle.symbols_taken.proofs.mark_used.Goals as goal

pub slice_bounds-mark_tables-end : goal.slice_bounds-mark_tables-end
slice_bounds-mark_tables-end c =
    let a = c.args in
    omega (arith, view_symbols a.order a.assembled.now a.view c.requires.0, c.requires.0.tabled.few, c.requires.1)

pub returns : goal.returns
returns c =
    let a = c.args in
    let n = a.view.symbols.count in
    let e : n - 0 ≡ symbol_count a.order a.assembled.now = sub-zero n ∙ view_symbols a.order a.assembled.now a.view c.requires.0 in
    used_put a.order a.assembled.now (n - 0) a.used.now _ e (omega (arith, c.requires.0.tabled.few, c.requires.1)) c.mark_tables.ensures
