use Rattle.write_merged.specs.Merged.{Sized}
use Rattle.write_planned.specs.Held.{SpansOver, held_plan}
use Prim.Native.Nat.{◌≤◌}
use mathlib.Core.Path.{◌≡◌}
use lib.ListN.{length}
use Rattle.write_merged.proofs.measure_sections.Given as goal

abbrev pub invariant-loop-i : goal.invariant-loop-i
invariant-loop-i l =
    (l.i ≤ l.n) × (length l.sizes ≡ length l.initial.sizes) × SpansOver l.initial.index l.index × Sized (held_plan l.compiled l.assembled l.file l.path l.x l.places) l.i l.sizes
