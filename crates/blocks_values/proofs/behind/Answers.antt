-- `blocks_values::behind` meets its contract: nothing stands behind the end, and else the part is the one behind the space. Assumes nothing.
use Rattle.base_lists.proofs.Windows.{tail_part}
use Rattle.blocks_values.proofs.Values.{behind_end}
use Prim.Native.Nat.{◌+◌}
use Rattle.blocks_values.proofs.behind.Goals as goal

pub returns-then-e-v : goal.returns-then-e-v
returns-then-e-v c =
    let a = c.args in
    behind_end a.v.now a.e c.if-e-v.true

pub returns : goal.returns
returns c =
    let a = c.args in
    tail_part a.v.now (a.e + 1)
