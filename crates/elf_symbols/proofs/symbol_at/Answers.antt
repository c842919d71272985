-- The entry lies inside the file by `Tabled`, and is read where `symbol_place` says. Assumes nothing.
use Rattle.elf_symbols.proofs.Symbols.{symbol_inside, symbol_read}
use native.Mathlib.Omega.{arith}
use mathlib.Core.Path.{◌∙◌}
use Rattle.elf_symbols.proofs.symbol_at.Goals as goal

pub overflow_add-at : goal.overflow_add-at
overflow_add-at c =
    let a = c.args in
    let q = c.requires in
    let h = symbol_inside a.order a.file.now q.0 a.k q.2 in
    record { fits = omega (arith, h, q.1) }

pub new-requires : goal.new-requires
new-requires c =
    let a = c.args in
    let q = c.requires in
    omega (arith, symbol_inside a.order a.file.now q.0 a.k q.2, q.1)

pub returns : goal.returns
returns c =
    let a = c.args in
    c.new.ensures ∙ symbol_read a.order a.file.now a.at a.k c.requires.1
