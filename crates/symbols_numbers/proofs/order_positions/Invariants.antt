use mathlib.Core.Path.{◌≡◌}
use lib.ListN.{length}
use Rattle.symbols_numbers.proofs.Counts.{Nexts}
use Rattle.symbols_numbers.proofs.Order.{Ordering}
use Rattle.symbols_numbers.proofs.order_positions.Given as goal

abbrev pub invariant-loop-p : goal.invariant-loop-p
invariant-loop-p l = (length l.order ≡ length l.initial.order) × Nexts l.rows l.list l.holders l.m l.p l.next × Ordering l.rows l.list l.holders l.m l.p l.order
