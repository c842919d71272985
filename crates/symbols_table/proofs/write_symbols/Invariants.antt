use Rattle.symbols_table.proofs.Entries.{EntriesWritten}
use Rattle.symbols_table.proofs.write_symbols.Given as goal

abbrev pub invariant-loop-k : goal.invariant-loop-k
invariant-loop-k l = EntriesWritten l.compiled l.assembled l.statics l.marks l.rows l.list l.order l.n l.initial.out l.at l.k l.out
