use Rattle.base_lists.specs.Ranges.{first}
use Rattle.elf_relocations.specs.Relocations.{relocates}
use mathlib.Core.Path.{◌≡◌}
use Rattle.elf_relocations.proofs.table_from.Given as goal

abbrev pub invariant-loop-i : goal.invariant-loop-i
invariant-loop-i l = first (relocates l.order l.file l.s) l.from l.n ≡ first (relocates l.order l.file l.s) l.i l.n
