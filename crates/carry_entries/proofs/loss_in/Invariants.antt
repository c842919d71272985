use Prim.Native.Nat.{◌≤◌}
use mathlib.Core.Path.{◌≡◌}
use Rattle.carry_entries.specs.Code.{carrying_in}
use Rattle.carry_entries.proofs.Entries.{loss_below}
use Rattle.carry_entries.proofs.loss_in.Given as goal

abbrev pub invariant-loop-k : goal.invariant-loop-k
invariant-loop-k l =
    (l.k ≤ l.n) × (l.lowest ≡ loss_below l.side.order l.file (carrying_in l.file l.side l.rows l.late l.numbers) l.t l.best l.k)
