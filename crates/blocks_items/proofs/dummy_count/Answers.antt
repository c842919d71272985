-- `blocks_items::dummy_count` meets its contract: the two starts that are read are those of the definition. Assumes nothing.
use Rattle.blocks_items.specs.Table.{dummies_in}
use Rattle.blocks_items.proofs.dummy_count.Goals as goal

pub returns : goal.returns
unfolding dummies_in
returns c = rw (c.group_start-end.ensures.0, c.group_start-start.ensures.0)
