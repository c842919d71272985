use Rattle.elf_index.proofs.Names.{Hashed}
use Rattle.elf_index.proofs.index_symbols.Given as goal

abbrev pub invariant-loop-k : goal.invariant-loop-k
invariant-loop-k l = Hashed l.order l.file l.k l.initial.index l.index
