use Rattle.write_merged.specs.Merged.{plan_end}
use Rattle.write_planned.specs.Held.{SpansOver, held_plan}
use Prim.Native.Nat.{◌≤◌}
use mathlib.Core.Path.{◌≡◌}
use Rattle.write_merged.proofs.merged_end.Given as goal

abbrev pub invariant-loop-i : goal.invariant-loop-i
invariant-loop-i l =
    (l.i ≤ l.n) × (l.end ≡ plan_end (held_plan l.compiled l.assembled l.file l.path l.x l.places) l.i) × SpansOver l.initial.index l.index
