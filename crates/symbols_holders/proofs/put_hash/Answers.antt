-- The number that is written is the hash of the id's name. Assumes nothing.
use borrow.Author.Rules.{rules}
use Rattle.base_index.proofs.Hashes.{hash_low}
use Rattle.symbols_holders.specs.Ready.{id_name}
use Rattle.symbols_holders.proofs.Tables.{hash_put}
use Rattle.symbols_holders.proofs.put_hash.Goals as goal

pub put_hash-requires : goal.put_hash-requires
put_hash-requires c =
    (search rules, rw c.name_hash-hash.ensures (hash_low _))

pub returns : goal.returns
returns c =
    let a = c.args in
    hash_put (id_name a.order a.compiled.now a.assembled.now a.statics.now a.sources) a.list.now a.index.now _ a.p _ _
    c.half_at-id.ensures.0 c.name_hash-hash.ensures c.put_hash.ensures
