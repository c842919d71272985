use Rattle.base_scope.specs.Codes.{LINES}
use Rattle.base_scope.specs.Limits.{FILE_LIMIT}
use Rattle.base_lists.specs.Written.{Written}
use Rattle.draft_text.proofs.Text.{labels_so}
use Prim.Native.Nat.{◌+◌, ◌*◌, ◌≤◌}
use Rattle.draft_text.proofs.append_labels.Given as goal

abbrev pub invariant-loop-k : goal.invariant-loop-k
invariant-loop-k l = (l.k ≤ LINES) × Written l.initial.out l.at (labels_so l.file l.suffix l.i l.k) l.next l.out × (l.next ≤ l.at + l.k * (2 * FILE_LIMIT))
