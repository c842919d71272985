use Rattle.write_merged.specs.Merged.{plan_end}
use Rattle.write_planned.specs.Held.{SpansOver, held_plan}
use Rattle.write_object.specs.Object.{fails_to_move}
use Rattle.base_lists.specs.Ranges.{first}
use Prim.Native.Nat.{◌≤◌}
use mathlib.Core.Path.{◌≡◌}
use Rattle.write_merged.proofs.moved_fault.Given as goal

abbrev pub invariant-loop-i : goal.invariant-loop-i
invariant-loop-i l =
    (l.i ≤ l.n) × (l.end ≡ plan_end (held_plan l.compiled l.assembled l.file l.path l.x l.places) l.i) × SpansOver l.initial.index l.index
    × (first (fails_to_move (held_plan l.compiled l.assembled l.file l.path l.x l.places) l.x.stage.inputs.order) 0 l.n
    ≡ first (fails_to_move (held_plan l.compiled l.assembled l.file l.path l.x l.places) l.x.stage.inputs.order) l.i l.n)
