-- The index of C's names stands behind the table of blocks, which stays. Assumes nothing.
use Rattle.open_inputs.proofs.Buffers.{index_room, index_put}
use Rattle.open_inputs.proofs.index_names.Goals as goal

pub index_symbols-requires : goal.index_symbols-requires
index_symbols-requires c =
    let a = c.args in
    (c.requires.0, index_room _ _ a.table.now c.bound-from.ensures c.bound-to.ensures c.requires.1)

pub returns : goal.returns
returns c =
    let a = c.args in
    let r = c.index_symbols in
    index_put _ _ a.table.now c.bound-from.ensures c.bound-to.ensures c.requires.1 a.order a.compiled.now _ r.auto.index r.ensures
