-- The test is the column of the table. Assumes nothing.
use Rattle.base_scope.proofs.Codes.{leaves_text}
use Rattle.base_scope.proofs.leaves_out.Goals as goal

pub returns : goal.returns
returns c = leaves_text c.args.code
