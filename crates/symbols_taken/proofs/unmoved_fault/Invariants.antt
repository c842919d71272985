use Rattle.base_lists.specs.Ranges.{first}
use Rattle.symbols_taken.specs.Code.{is_unmoved_in}
use Prim.Native.Nat.{◌≤◌}
use mathlib.Core.Path.{◌≡◌}
use Rattle.symbols_taken.proofs.unmoved_fault.Given as goal

abbrev pub invariant-loop-k : goal.invariant-loop-k
invariant-loop-k l = (l.k ≤ l.n) × (first (is_unmoved_in l.order l.assembled l.runs l.late l.blocks) 0 l.n ≡ first (is_unmoved_in l.order l.assembled l.runs l.late l.blocks) l.k l.n)
