use Prim.Native.Nat.{◌+◌, ◌*◌, ◌^◌, ◌≤◌}
use Rattle.base_lists.specs.Written.{Written}
use Rattle.statics_table.specs.Table.{static_in}
use Rattle.write_strings.specs.Strings.{strings_below}
use Rattle.write_strings.proofs.append_statics.Given as goal

abbrev pub invariant-loop-k : goal.invariant-loop-k
invariant-loop-k l =
    (l.k ≤ l.n) × (l.next ≤ l.at + l.k * 2 ^ 21) × Written l.initial.out l.at (strings_below l.mode l.path l.compiled (static_in l.statics) l.k) l.next l.out
