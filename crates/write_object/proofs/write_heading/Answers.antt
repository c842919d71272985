-- The header is written with its two new fields. Assumes nothing.
use Rattle.write_object.specs.Steps.{heading_with}
use Rattle.write_object.proofs.write_heading.Goals as goal

pub returns : goal.returns
unfolding heading_with
returns c = c.write.ensures
