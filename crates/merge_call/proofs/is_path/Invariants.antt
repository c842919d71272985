use Rattle.base_lists.specs.Ranges.{first}
use Rattle.merge_verdict.proofs.Limits.{bad_byte}
use Prim.Native.Nat.{◌≤◌}
use mathlib.Core.Path.{◌≡◌}
use lib.ListN.{length}
use Rattle.merge_call.proofs.is_path.Given as goal

abbrev pub invariant-loop-x : goal.invariant-loop-x
invariant-loop-x l = (l.x-index ≤ length l.path) × (first (bad_byte l.path) 0 (length l.path) ≡ first (bad_byte l.path) l.x-index (length l.path))
