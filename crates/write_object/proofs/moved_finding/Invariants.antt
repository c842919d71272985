use Rattle.write_object.specs.Own.{own_plan, own_end}
use Rattle.write_object.specs.Object.{fails_to_move}
use Rattle.base_lists.specs.Ranges.{first}
use Prim.Native.Nat.{◌≤◌}
use mathlib.Core.Path.{◌≡◌}
use Rattle.write_object.proofs.moved_finding.Given as goal

abbrev pub invariant-loop-i : goal.invariant-loop-i
invariant-loop-i l = (l.i ≤ l.n) × (l.end ≡ own_end l.order l.file l.i) × (first (fails_to_move (own_plan l.order l.file) l.order) 0 l.n ≡ first (fails_to_move (own_plan l.order l.file) l.order) l.i l.n)
