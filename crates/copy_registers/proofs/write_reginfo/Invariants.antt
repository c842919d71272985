use Rattle.base_lists.specs.Windows.{spliced}
use Rattle.copy_registers.specs.Reginfo.{joined}
use Prim.Native.Nat.{◌≤◌}
use mathlib.Core.Path.{◌≡◌}
use lib.ListN.{length, take}
use Rattle.copy_registers.proofs.write_reginfo.Given as goal

abbrev pub invariant-loop-i : goal.invariant-loop-i
invariant-loop-i l = (l.i ≤ length l.compiled) × (length l.out ≡ length l.initial.out) × (l.out ≡ spliced l.initial.out l.at (take l.i (joined l.compiled l.assembled)))
