use Rattle.statics_file.proofs.File.{FileSoFar}
use Rattle.statics_file.proofs.walk_entries.Given as goal

abbrev pub invariant-loop-j : goal.invariant-loop-j
invariant-loop-j l =
    FileSoFar l.order l.file l.setting.head (record { start = l.start; count = l.n; names = l.base }) l.initial.table l.initial.filled.count l.j l.opened l.closed l.filled l.table
