-- The entry has it. Assumes nothing.
use Rattle.elf_records.specs.declared.symbol.SymbolEntry.{SymbolEntry}
use Rattle.elf_symbols.proofs.Symbols.{table_at}
use mathlib.Core.Path.{ap}
use Rattle.symbols_names.proofs.name_start.Goals as goal

pub symbol_at-s-requires : goal.symbol_at-s-requires
symbol_at-s-requires c =
    let a = c.args in
    let q = c.requires in
    (q.0.tabled, table_at a.order a.file.now a.table q.0, q.1)

pub returns : goal.returns
returns c = ap (λ (y : SymbolEntry). y.st_name) c.symbol_at-s.ensures
