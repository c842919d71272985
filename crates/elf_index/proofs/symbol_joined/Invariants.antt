use Rattle.base_index.specs.Index.{hash_of}
use Rattle.base_index.proofs.Index.{Reached}
use Rattle.elf_symbols.specs.Symbols.{symbol_count, is_symbol_named}
use Prim.Native.Nat.{◌-◌}
use mathlib.Core.List.{◌++◌}
use Rattle.elf_index.proofs.symbol_joined.Given as goal

abbrev pub invariant-loop-k : goal.invariant-loop-k
invariant-loop-k l = Reached (is_symbol_named l.order l.file (l.front ++ l.back)) (hash_of (l.front ++ l.back)) l.index (symbol_count l.order l.file) l.k

abbrev pub decreases-loop-k : goal.decreases-loop-k
decreases-loop-k l = l.n - l.k
