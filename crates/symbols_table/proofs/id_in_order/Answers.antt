-- The word of the list at the word of the order. Assumes nothing.
use Rattle.symbols_table.proofs.Entries.{id_read}
use Rattle.symbols_table.proofs.id_in_order.Goals as goal

pub returns : goal.returns
returns c = id_read _ _ _ _ _ c.half_at.ensures.0 c.half_at-2.ensures.0
