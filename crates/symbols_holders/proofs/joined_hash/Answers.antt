-- The tail is hashed first, then the stored name before it. Assumes nothing.
use Rattle.statics_table.specs.Statics.{count_tail}
use Rattle.base_index.proofs.Hashes.{hash_joined}
use Rattle.symbols_holders.proofs.joined_hash.Goals as goal

pub returns : goal.returns
returns c =
    let a = c.args in
    hash_joined _ _ _ _ _ a.stored.now (count_tail a.number)
    c.hash_end.ensures
    c.hash_before-whole.ensures
    c.hash_tail-back.ensures
    c.tail_length-tail.ensures.0
    c.room_behind.ensures
