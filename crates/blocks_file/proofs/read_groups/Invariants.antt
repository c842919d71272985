use Rattle.blocks_file.proofs.Table.{Sound}
use Rattle.blocks_file.proofs.read_groups.Given as goal

abbrev pub invariant-loop-k : goal.invariant-loop-k
invariant-loop-k l = Sound l.file l.at l.k l.p l.starts
