use Rattle.base_lists.specs.Ranges.{first}
use Rattle.elf_symbol_faults.specs.Faults.{bad_symbol}
use mathlib.Core.Path.{◌≡◌}
use Rattle.elf_symbol_faults.proofs.first_bad_symbol.Given as goal

abbrev pub invariant-loop-k : goal.invariant-loop-k
invariant-loop-k l = first (bad_symbol l.order l.file) 0 l.n ≡ first (bad_symbol l.order l.file) l.k l.n
