use Prim.Native.Nat.{◌^◌, ◌+◌, ◌≤◌, ◌<◌}
use mathlib.Core.List.{◌++◌}
use Rattle.base_text.specs.Decimals.{digits_text, decimal_text}
use mathlib.Core.Path.{◌≡◌}
use lib.ListN.{length, drop}
use Rattle.base_text.proofs.put_digits.Given as goal

abbrev pub invariant-loop-m : goal.invariant-loop-m
invariant-loop-m l = (l.i ≤ 9) × (length l.d ≡ 10) × (l.m < 10 ^ (l.i + 1)) × (decimal_text l.n ≡ digits_text l.i l.m ++ drop (l.i + 1) l.d)

abbrev pub decreases-loop-m : goal.decreases-loop-m
decreases-loop-m l = l.i
