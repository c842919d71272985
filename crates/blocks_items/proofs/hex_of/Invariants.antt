use Rattle.blocks_items.specs.Items.{hex_from, hexadecimal}
use Prim.Native.Nat.{◌^◌, ◌≤◌, ◌<◌}
use mathlib.Core.Path.{◌≡◌}
use lib.ListN.{length, drop}
use Rattle.blocks_items.proofs.hex_of.Given as goal

abbrev pub invariant-loop-x : goal.invariant-loop-x
invariant-loop-x l = (l.x-index ≤ length l.v) × (l.n < 16 ^ l.x-index) × (hexadecimal l.v ≡ hex_from l.n (drop l.x-index l.v))
