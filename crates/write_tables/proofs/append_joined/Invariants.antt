use Prim.Native.Nat.{◌+◌, ◌*◌, ◌≤◌}
use Rattle.base_lists.specs.Written.{Written}
use Rattle.base_scope.specs.Limits.{FILE_LIMIT}
use Rattle.carry_entries.specs.Entries.{carried_bytes}
use Rattle.carry_entries.specs.Code.{carrying_in}
use Rattle.write_tables.specs.Tables.{joined_in}
use Rattle.write_tables.proofs.append_joined.Given as goal

abbrev pub invariant-loop-j : goal.invariant-loop-j
invariant-loop-j l =
    (l.j ≤ l.n) × (l.next ≤ l.at + l.j * FILE_LIMIT) × Written l.initial.out l.at (joined_in l.homes (carried_bytes l.side.order l.file (carrying_in l.file l.side l.rows l.late l.numbers)) l.i l.j) l.next l.out
