use Rattle.write_merged.specs.Merged.{plan_end}
use Rattle.write_object.specs.Steps.{headings_of}
use Rattle.write_planned.specs.Held.{SpansOver, held_plan}
use Rattle.base_lists.specs.Windows.{spliced}
use Prim.Native.Nat.{◌≤◌}
use mathlib.Core.Path.{◌≡◌}
use lib.ListN.{length}
use Rattle.write_merged.proofs.write_merged_headings.Given as goal

abbrev pub invariant-loop-i : goal.invariant-loop-i
invariant-loop-i l =
    (l.i ≤ l.n) × (l.end ≡ plan_end (held_plan l.compiled l.assembled l.file l.path l.x l.places) l.i) × SpansOver l.initial.index l.index × (length l.out ≡ length l.initial.out)
    × (l.out ≡ spliced l.initial.out l.at (headings_of (held_plan l.compiled l.assembled l.file l.path l.x l.places) l.x.stage.inputs.order l.i))
