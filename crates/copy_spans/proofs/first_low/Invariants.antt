use Rattle.copy_spans.proofs.Records.{Checking}
use Prim.Native.Nat.{◌-◌}
use lib.ListN.{length}
use Rattle.copy_spans.proofs.first_low.Given as goal

abbrev pub invariant-loop-i : goal.invariant-loop-i
invariant-loop-i l = Checking l.spans l.code l.end l.i

abbrev pub decreases-loop-i : goal.decreases-loop-i
decreases-loop-i l = length l.spans - l.i
