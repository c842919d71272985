use Rattle.base_index.specs.Index.{Emptied}
use Rattle.base_index.proofs.empty_heads.Given as goal

abbrev pub invariant-loop-b : goal.invariant-loop-b
invariant-loop-b l = Emptied l.cap l.n l.b l.initial.table l.table
