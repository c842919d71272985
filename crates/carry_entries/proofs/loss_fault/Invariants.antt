use Prim.Native.Nat.{◌≤◌}
use mathlib.Core.Path.{◌≡◌}
use Rattle.carry_entries.specs.Code.{carrying_in}
use Rattle.carry_entries.proofs.Entries.{fault_below}
use Rattle.carry_entries.proofs.loss_fault.Given as goal

abbrev pub invariant-loop-t : goal.invariant-loop-t
invariant-loop-t l =
    (l.t ≤ l.n) × (l.best ≡ fault_below l.side.order l.file (carrying_in l.file l.side l.rows l.late l.numbers) l.t)
