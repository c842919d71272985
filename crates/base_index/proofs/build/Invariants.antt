use Rattle.base_index.proofs.Chains.{Chained}
use Rattle.base_index.proofs.build.Given as goal

abbrev pub invariant-loop-j : goal.invariant-loop-j
invariant-loop-j l = Chained l.cap l.n l.j l.initial.table l.table
