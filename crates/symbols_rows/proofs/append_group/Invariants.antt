use Rattle.symbols_rows.proofs.Listing.{Appending}
use Rattle.symbols_rows.proofs.append_group.Given as goal

abbrev pub invariant-loop-i : goal.invariant-loop-i
invariant-loop-i l = Appending l.rows l.n l.group l.m l.initial.list l.i l.r l.list
