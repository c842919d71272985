use Rattle.symbols_merge.specs.Merged.{RESULT_GROUPS}
use Rattle.symbols_numbers.proofs.Counts.{Counting}
use Rattle.symbols_numbers.proofs.count_groups.Given as goal

abbrev pub invariant-loop-p : goal.invariant-loop-p
invariant-loop-p l = Counting l.rows l.list l.holders l.m (λ g. 0) RESULT_GROUPS l.p l.counts
