use Rattle.base_lists.specs.Ranges.{first}
use Rattle.elf_symbols.specs.Symbols.{is_symtab}
use mathlib.Core.Path.{◌≡◌}
use Rattle.elf_symbols.proofs.symtab_index.Given as goal

abbrev pub invariant-loop-i : goal.invariant-loop-i
invariant-loop-i l = first (is_symtab l.order l.file) 0 l.n ≡ first (is_symtab l.order l.file) l.i l.n
