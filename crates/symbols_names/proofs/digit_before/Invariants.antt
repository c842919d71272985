use Rattle.symbols_names.specs.Names.{without_last}
use Prim.Native.Nat.{◌-◌}
use mathlib.Core.Path.{◌≡◌}
use Rattle.symbols_names.proofs.digit_before.Given as goal

abbrev pub invariant-loop : goal.invariant-loop
invariant-loop l = without_last l.low l.number ≡ without_last (l.low - l.counter) l.n
