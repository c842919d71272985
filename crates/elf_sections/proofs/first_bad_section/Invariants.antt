use Rattle.base_lists.specs.Ranges.{first}
use Rattle.elf_sections.specs.Headers.{bad_section}
use mathlib.Core.Path.{◌≡◌}
use Rattle.elf_sections.proofs.first_bad_section.Given as goal

abbrev pub invariant-loop-i : goal.invariant-loop-i
invariant-loop-i l = first (bad_section l.order l.file) 0 l.n ≡ first (bad_section l.order l.file) l.i l.n
