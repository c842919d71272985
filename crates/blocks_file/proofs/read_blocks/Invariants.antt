use Rattle.base_scope.specs.Limits.{BLOCK_LIMIT}
use Rattle.blocks_file.proofs.Table.{Filled}
use Prim.Native.Nat.{◌-◌}
use Rattle.blocks_file.proofs.read_blocks.Given as goal

abbrev pub invariant-loop-at : goal.invariant-loop-at
invariant-loop-at l = Filled l.file l.initial.table l.i l.at l.table

abbrev pub decreases-loop-at : goal.decreases-loop-at
decreases-loop-at l = BLOCK_LIMIT - l.i
