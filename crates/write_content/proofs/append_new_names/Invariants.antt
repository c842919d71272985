use Prim.Native.Nat.{◌+◌, ◌*◌, ◌≤◌}
use Rattle.base_lists.specs.Written.{Written}
use Rattle.write_content.specs.Content.{new_names_in}
use Rattle.write_content.proofs.append_new_names.Given as goal

abbrev pub invariant-loop-i : goal.invariant-loop-i
invariant-loop-i l =
    (l.i ≤ l.count) × (l.next ≤ l.at + 13 * l.i) × Written l.initial.out l.at (new_names_in l.order l.assembled l.homes l.n l.stay l.i) l.next l.out
