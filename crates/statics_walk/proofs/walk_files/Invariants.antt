use Rattle.statics_walk.proofs.Walk.{FilesSoFar}
use Rattle.statics_walk.proofs.walk_files.Given as goal

abbrev pub invariant-loop-i : goal.invariant-loop-i
invariant-loop-i l = FilesSoFar l.order l.file l.setting.head l.t l.initial.table l.i l.entries l.filled l.table
