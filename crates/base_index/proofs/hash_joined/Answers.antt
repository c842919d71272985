-- The back is hashed first, then the front before it. Assumes nothing.
use Rattle.std.proofs.Common.{refl}
use Rattle.base_index.proofs.Hashes.{hash_joined}
use Rattle.base_index.proofs.hash_joined.Goals as goal

pub returns : goal.returns
returns c =
    let a = c.args in
    hash_joined _ _ _ _ _ a.front.now a.back.now c.hash_end.ensures c.hash_before.ensures c.hash_before-h.ensures refl c.room_behind.ensures
