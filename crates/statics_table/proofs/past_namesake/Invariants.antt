use Rattle.base_lists.specs.Ranges.{past_last}
use Rattle.statics_table.specs.Statics.{is_namesake}
use Rattle.statics_table.specs.Table.{static_in}
use mathlib.Core.Path.{◌≡◌}
use Rattle.statics_table.proofs.past_namesake.Given as goal

abbrev pub invariant-loop-k : goal.invariant-loop-k
invariant-loop-k l = past_last (λ j. is_namesake l.file l.name (static_in l.table j)) l.n ≡ past_last (λ j. is_namesake l.file l.name (static_in l.table j)) l.k
