-- The list is indexed, and its names are held. Assumes nothing.
use Rattle.symbols_fill.proofs.of_symbols_holders.Holders.{list_held}
use Rattle.symbols_chain.proofs.Chain.{ready_few}
use Rattle.symbols_chain.proofs.hold_symbols.Goals as goal

pub index_list-requires : goal.index_list-requires
index_list-requires c =
    let q = c.requires in
    (q.0.read, list_held _ _ _ _ _ _ _ _ q.0, ready_few _ _ _ _ _ _ _ _ q.0, q.1, q.3)

pub returns : goal.returns
returns c = c.hold_names.ensures.held
