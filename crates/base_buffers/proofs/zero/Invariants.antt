use Rattle.base_lists.specs.Windows.{spliced}
use Rattle.base_buffers.specs.Buffers.{zeros}
use Prim.Native.Nat.{◌-◌, ◌≤◌}
use mathlib.Core.Path.{◌≡◌}
use lib.ListN.{length}
use Rattle.base_buffers.proofs.zero.Given as goal

abbrev pub invariant-loop-i : goal.invariant-loop-i
invariant-loop-i l = (l.i ≤ length l.initial.s) × (length l.s ≡ length l.initial.s) × (l.s ≡ spliced l.initial.s 0 (zeros l.i))

abbrev pub decreases-loop-i : goal.decreases-loop-i
decreases-loop-i l = length l.initial.s - l.i
