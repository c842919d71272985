use Rattle.base_lists.specs.Ranges.{first}
use Rattle.elf_readers.specs.Readers.{has_name}
use mathlib.Core.Path.{◌≡◌}
use Rattle.elf_readers.proofs.section_named.Given as goal

abbrev pub invariant-loop-i : goal.invariant-loop-i
invariant-loop-i l = first (has_name l.order l.file l.name) 0 l.n ≡ first (has_name l.order l.file l.name) l.i l.n
