-- Both tests are the definition's. Assumes nothing.
use Rattle.merge_verdict.specs.Verdict.{is_path_byte}
use Rattle.merge_call.proofs.is_path_byte.Goals as goal

pub returns : goal.returns
unfolding is_path_byte
returns c = c.both.ensures
