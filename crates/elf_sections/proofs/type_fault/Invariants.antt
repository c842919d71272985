use Rattle.base_lists.specs.Ranges.{least}
use Rattle.elf_sections.specs.Names.{coded_after, mistyped}
use mathlib.Core.Path.{◌≡◌}
use Rattle.elf_sections.proofs.type_fault.Given as goal

abbrev pub invariant-loop-i : goal.invariant-loop-i
invariant-loop-i l = l.lowest ≡ least (coded_after l.order l.file) (mistyped l.order l.file) l.n l.i
