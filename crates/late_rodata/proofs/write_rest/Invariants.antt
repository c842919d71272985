use Rattle.late_rodata.specs.Writing.{rest_read}
use Rattle.late_rodata.proofs.Writing.{Going}
use Prim.Native.Nat.{◌-◌}
use lib.ListN.{length}
use Rattle.late_rodata.proofs.write_rest.Given as goal

abbrev pub invariant-loop-k : goal.invariant-loop-k
invariant-loop-k l = Going (rest_read l.order l.file l.rodata l.words l.late l.blocks l.last) l.at l.last l.initial.out l.k l.out

abbrev pub decreases-loop-k : goal.decreases-loop-k
decreases-loop-k l = length l.rodata - l.k
