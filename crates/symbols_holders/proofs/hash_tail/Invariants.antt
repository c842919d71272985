use Prim.Native.Nat.{◌≤◌}
use mathlib.Core.Path.{◌≡◌}
use lib.ListN.{length, take}
use Rattle.base_index.specs.Index.{mixed_at, mixed}
use Rattle.statics_table.specs.Statics.{count_tail}
use Rattle.symbols_holders.proofs.hash_tail.Given as goal

abbrev pub invariant-loop-i : goal.invariant-loop-i
invariant-loop-i l = (l.i ≤ length (count_tail l.number)) × (mixed (take l.room (count_tail l.number)) 0 ≡ mixed_at (count_tail l.number) 0 l.i l.g)

abbrev pub decreases-loop-i : goal.decreases-loop-i
decreases-loop-i l = l.i
