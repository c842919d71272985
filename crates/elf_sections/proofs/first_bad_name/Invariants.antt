use Rattle.base_lists.specs.Ranges.{first}
use Rattle.elf_sections.specs.Names.{bad_name}
use mathlib.Core.Path.{◌≡◌}
use Rattle.elf_sections.proofs.first_bad_name.Given as goal

abbrev pub invariant-loop-i : goal.invariant-loop-i
invariant-loop-i l = first (bad_name l.order l.file) 0 l.n ≡ first (bad_name l.order l.file) l.i l.n
