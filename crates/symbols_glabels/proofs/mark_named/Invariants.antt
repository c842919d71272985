use Rattle.base_index.specs.Index.{hash_of}
use Rattle.elf_symbols.specs.Symbols.{symbol_count, is_symbol_named}
use Rattle.symbols_glabels.proofs.Marks.{Walked}
use Prim.Native.Nat.{◌-◌}
use Rattle.symbols_glabels.proofs.mark_named.Given as goal

abbrev pub invariant-loop-k : goal.invariant-loop-k
invariant-loop-k l = Walked (is_symbol_named l.order l.assembled l.name) l.put (hash_of l.name) l.index (symbol_count l.order l.assembled) l.initial.marks l.marks l.k

abbrev pub decreases-loop-k : goal.decreases-loop-k
decreases-loop-k l = l.n - l.k
