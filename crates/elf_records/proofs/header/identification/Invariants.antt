use mathlib.Core.Path.{◌≡◌}
use lib.ListN.{take, drop}
use Rattle.base_lists.specs.Windows.{spliced}
use Rattle.elf_records.proofs.header.identification.Given as goal

abbrev pub invariant-loop-i : goal.invariant-loop-i
invariant-loop-i l = l.ident ≡ spliced l.initial.ident 0 (take l.i (take 16 (drop l.at l.s)))
