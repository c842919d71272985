-- The table of blocks is the first of its buffer. Assumes nothing.
use Rattle.open_inputs.proofs.Buffers.{rows_put}
use Rattle.open_inputs.proofs.read_rows.Goals as goal

pub returns : goal.returns
returns c =
    let a = c.args in
    let r = c.read_blocks in
    rows_put _ _ a.table.now c.bound-from.ensures c.bound-to.ensures c.requires.1 a.file.now _ _ r.auto.table r.ensures
