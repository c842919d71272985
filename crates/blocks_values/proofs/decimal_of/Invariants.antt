use Rattle.base_text.specs.Decimals.{decimal, decimal_from}
use Prim.Native.Nat.{◌^◌, ◌≤◌, ◌<◌}
use mathlib.Core.Path.{◌≡◌}
use lib.ListN.{length, drop}
use Rattle.blocks_values.proofs.decimal_of.Given as goal

abbrev pub invariant-loop-x : goal.invariant-loop-x
invariant-loop-x l = (l.x-index ≤ length l.v) × (l.n < 10 ^ l.x-index) × (decimal l.v ≡ decimal_from l.n (drop l.x-index l.v))
