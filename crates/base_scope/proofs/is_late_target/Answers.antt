-- The test is the column of the table. Assumes nothing.
use Rattle.base_scope.proofs.Codes.{late_is}
use Rattle.base_scope.proofs.is_late_target.Goals as goal

pub returns : goal.returns
returns c = late_is c.args.code
