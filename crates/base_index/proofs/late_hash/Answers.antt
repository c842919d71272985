-- The name is in hand. Assumes nothing.
use Rattle.base_index.specs.Index.{hash_of}
use Rattle.std.proofs.Common.{ap, ◌∙◌}
use Rattle.base_index.proofs.late_hash.Goals as goal

pub returns : goal.returns
returns c = c.hash_of.ensures ∙ ap hash_of c.far_name.ensures
