-- The entry is the symbol, and its word is that of its own section index. Assumes nothing.
use Rattle.symbols_entries.proofs.Entries.{moved_read}
use Rattle.elf_symbols.proofs.Symbols.{table_at}
use Rattle.symbols_entries.proofs.assembled_entry.Goals as goal

pub symbol_at-e-requires : goal.symbol_at-e-requires
symbol_at-e-requires c =
    let a = c.args in
    let q = c.requires in
    (q.symbols.tabled, table_at a.order a.assembled.now a.table q.symbols, q.below)

pub word_of-word-requires : goal.word_of-word-requires
word_of-word-requires c = c.requires.word

pub moved_entry-requires : goal.moved_entry-requires
moved_entry-requires c = rw c.symbol_at-e.ensures c.requires.name

pub returns : goal.returns
returns c =
    let a = c.args in
    moved_read a.order a.assembled.now a.marks.now a.base a.section a.value _ a.k _ _ c.symbol_at-e.ensures c.word_of-word.ensures c.moved_entry.ensures
