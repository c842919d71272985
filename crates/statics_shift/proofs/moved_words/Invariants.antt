use Rattle.statics_shift.proofs.Shift.{moved_some}
use Prim.Native.Nat.{◌≤◌}
use mathlib.Core.Path.{◌≡◌}
use Rattle.statics_shift.proofs.moved_words.Given as goal

abbrev pub invariant-loop-i : goal.invariant-loop-i
invariant-loop-i l = (l.i ≤ 23) × (l.moved ≡ moved_some l.words l.old l.new l.i)
