-- `late_walk::store_row` meets its contract: the three words that are written are the bytes of the row. Assumes nothing.
use Rattle.late_walk.specs.Table.{late_row_bytes}
use Rattle.late_walk.proofs.store_row.Goals as goal

pub returns : goal.returns
unfolding late_row_bytes
returns c = c.write_words.ensures
