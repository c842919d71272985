-- The two numbers that are written. Assumes nothing.
use Rattle.base_index.proofs.Chains.{link_is}
use Rattle.base_index.proofs.link.Goals as goal

pub returns : goal.returns
returns c =
    let a = c.args in
    link_is a.cap a.n a.j _ _ _ _ _ a.table.now _ _ c.hash_at-h.ensures c.head_of-next.ensures.0 c.next_place.ensures c.write16.ensures
    c.bucket_of.ensures.0 c.head_place.ensures c.write16-2.ensures
