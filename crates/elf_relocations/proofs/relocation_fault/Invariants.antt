use Rattle.base_lists.specs.Ranges.{first}
use Rattle.elf_relocations.specs.Relocations.{bad_table}
use mathlib.Core.Path.{◌≡◌}
use Rattle.elf_relocations.proofs.relocation_fault.Given as goal

abbrev pub invariant-loop-i : goal.invariant-loop-i
invariant-loop-i l = first (bad_table l.order l.file) 0 l.n ≡ first (bad_table l.order l.file) l.i l.n
