-- `SymbolEntry::write` meets its contract: six writes, each right behind the one before, are the bytes of the entry.
-- Assumes nothing.
use Rattle.elf_records.proofs.Writes.{symbol_written}
use Rattle.elf_records.proofs.symbol.SymbolEntry.write.Goals as goal

pub returns : goal.returns
returns c =
    let a = c.args in
    symbol_written a.order a.self a.s.now a.at _ _ _ _ _ _ c.requires.0
    c.write32.ensures
    c.write32-2.ensures
    c.write32-3.ensures
    c.write8.ensures
    c.write8-2.ensures
    c.write16.ensures
