-- One read. Assumes nothing.
use Rattle.base_index.specs.Index.{hash_in}
use Rattle.base_index.proofs.hash_at.Goals as goal

pub returns : goal.returns
unfolding hash_in
returns c = c.read16.ensures.0
