use mathlib.Core.Path.{◌≡◌}
use lib.ListN.{take}
use Rattle.base_lists.specs.Windows.{spliced}
use Rattle.elf_records.specs.Debug.{debug_at}
use Rattle.elf_records.proofs.debug.Hdrr.new.Given as goal

abbrev pub invariant-loop-i : goal.invariant-loop-i
invariant-loop-i l = l.words ≡ spliced l.initial.words 0 (take l.i (debug_at l.order l.s l.at).words)
