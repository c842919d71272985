use mathlib.Core.Path.{◌≡◌}
use lib.ListN.{take}
use Rattle.base_lists.specs.Windows.{spliced}
use Rattle.base_lists.specs.Records.{flat}
use Rattle.base_fields.specs.Numbers.{encoded}
use Rattle.base_fields.proofs.write_halves.Given as goal

abbrev pub invariant-loop-i : goal.invariant-loop-i
invariant-loop-i l = l.s ≡ spliced l.initial.s l.at (flat (encoded l.order 2) (take l.i l.halves))
