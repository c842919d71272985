use Prim.Native.Nat.{◌≤◌}
use Rattle.base_lists.specs.Written.{Written}
use Rattle.carry_entries.specs.Code.{carrying_in, Stays}
use Rattle.carry_entries.proofs.Entries.{bytes_below}
use Rattle.carry_entries.proofs.append_entries.Given as goal

abbrev pub invariant-loop-k : goal.invariant-loop-k
invariant-loop-k l =
    (l.k ≤ l.n) × Written l.initial.out l.at (bytes_below l.side.order l.file (carrying_in l.file l.side l.rows l.late l.numbers) l.t l.k) l.next l.out × Stays l.side l.rows l.late l.table.code l.gap
