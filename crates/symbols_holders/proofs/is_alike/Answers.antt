-- Both hashes, both ids and both names are read, and the test says which case it is. Assumes nothing.
use Rattle.symbols_holders.proofs.Holders.{alike_read, alike_unread}
use Rattle.symbols_holders.proofs.is_alike.Goals as goal

pub returns-then-hash_at : goal.returns-then-hash_at
returns-then-hash_at c =
    let a = c.args in
    alike_read a.order a.compiled.now a.assembled.now a.statics.now a.sources a.list.now a.index.now a.p a.k _ _
    c.hash_at.ensures c.hash_at-2.ensures _ _ _ c.if-hash_at.true
    c.half_at-i.ensures.0 c.half_at-j.ensures.0 c.is_same_name.ensures

pub returns : goal.returns
returns c =
    let a = c.args in
    alike_unread a.order a.compiled.now a.assembled.now a.statics.now a.sources a.list.now a.index.now a.p a.k _ _
    c.hash_at.ensures c.hash_at-2.ensures c.if-hash_at.false
