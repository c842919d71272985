use Rattle.symbols_glabels.proofs.Groups.{Turned}
use Prim.Native.Nat.{ℕ, ◌-◌, ◌≤◌}
use lib.ListN.{length}
use Rattle.symbols_glabels.proofs.mark_group.Given as goal

abbrev pub invariant-loop-order : goal.invariant-loop-order
invariant-loop-order l = (l.at ≤ length l.file) × (m : ℕ) × Turned l.order l.assembled l.file l.from l.initial.marks l.marks l.at m

abbrev pub decreases-loop-order : goal.decreases-loop-order
decreases-loop-order l = length l.file - l.at
