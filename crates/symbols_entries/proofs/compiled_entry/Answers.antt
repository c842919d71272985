-- The symbol as it is read. Assumes nothing.
use Rattle.elf_symbols.proofs.Symbols.{table_at}
use native.Mathlib.Omega.{arith}
use Rattle.symbols_entries.proofs.compiled_entry.Goals as goal

pub symbol_at-requires : goal.symbol_at-requires
symbol_at-requires c =
    let a = c.args in
    let q = c.requires in
    (q.0.tabled, table_at a.order a.compiled.now a.table q.0, omega (arith, q.1))

pub returns : goal.returns
returns c = c.symbol_at.ensures
