use Rattle.elf_check.proofs.Views.{begun}
use mathlib.Core.Path.{◌≡◌}
use Rattle.elf_check.proofs.coded_sections.Given as goal

abbrev pub invariant-loop-i : goal.invariant-loop-i
invariant-loop-i l = l.coded ≡ begun l.order l.file l.i
