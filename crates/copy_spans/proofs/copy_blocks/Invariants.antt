use Rattle.copy_spans.proofs.Records.{Copying}
use Prim.Native.Nat.{◌-◌}
use lib.ListN.{length}
use Rattle.copy_spans.proofs.copy_blocks.Given as goal

abbrev pub invariant-loop-i : goal.invariant-loop-i
invariant-loop-i l = Copying l.spans l.code l.source l.initial.section l.i l.section

abbrev pub decreases-loop-i : goal.decreases-loop-i
decreases-loop-i l = length l.spans - l.i
