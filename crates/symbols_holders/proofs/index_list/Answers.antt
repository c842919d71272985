-- Building the index keeps the hashes that were put. Assumes nothing.
use Rattle.symbols_holders.proofs.Tables.{list_indexed}
use Rattle.symbols_holders.proofs.index_list.Goals as goal

pub returns : goal.returns
returns c =
    list_indexed _ _ _ _ _ c.put_hashes.ensures c.build.ensures
