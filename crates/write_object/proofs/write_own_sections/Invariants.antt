use Rattle.write_object.specs.Own.{own_plan, own_end}
use Rattle.write_object.specs.Steps.{pieces_of}
use Rattle.write_image.specs.Layout.{HEADER_END}
use Rattle.base_lists.specs.Windows.{spliced}
use Prim.Native.Nat.{◌≤◌}
use mathlib.Core.Path.{◌≡◌}
use lib.ListN.{length}
use Rattle.write_object.proofs.write_own_sections.Given as goal

abbrev pub invariant-loop-i : goal.invariant-loop-i
invariant-loop-i l = (l.i ≤ l.n) × (l.end ≡ own_end l.order l.file l.i) × (length l.out ≡ length l.initial.out) × (l.out ≡ spliced l.initial.out HEADER_END (pieces_of (own_plan l.order l.file) l.order l.i))
