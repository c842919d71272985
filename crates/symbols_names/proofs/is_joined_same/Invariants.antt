use Rattle.base_lists.specs.Strings.{same}
use Rattle.statics_table.specs.Statics.{count_tail}
use mathlib.Core.Path.{◌≡◌}
use mathlib.Core.List.{◌++◌}
use lib.ListN.{drop}
use Rattle.symbols_names.proofs.is_joined_same.Given as goal

abbrev pub invariant-loop-i : goal.invariant-loop-i
invariant-loop-i l = same (l.a ++ count_tail l.m) (l.b ++ count_tail l.n) ≡ same (drop l.i (l.a ++ count_tail l.m)) (drop l.i (l.b ++ count_tail l.n))
