use mathlib.Core.Path.{◌≡◌}
use lib.ListN.{length}
use Rattle.symbols_numbers.specs.Numbers.{IdsNumbered}
use Rattle.symbols_numbers.proofs.Counts.{Nexts}
use Rattle.symbols_numbers.proofs.number_ids.Given as goal

abbrev pub invariant-loop-p : goal.invariant-loop-p
invariant-loop-p l = (length l.numbers ≡ length l.initial.numbers) × Nexts l.rows l.list l.holders l.m l.p l.next × IdsNumbered l.rows l.list l.holders l.m l.p l.numbers
