use Rattle.base_lists.specs.Ranges.{first}
use Rattle.base_scope.specs.Codes.{TEXT, CODES}
use Rattle.merge_missing.specs.Ends.{missing_by}
use Prim.Native.Nat.{◌+◌, ◌≤◌}
use mathlib.Core.Path.{◌≡◌}
use Rattle.merge_missing.proofs.missing_in_a.Given as goal

abbrev pub invariant-loop-code : goal.invariant-loop-code
invariant-loop-code l =
    (TEXT ≤ l.code) × (l.code ≤ CODES + 1) × (first (missing_by l.order l.assembled l.target l.ends l.late) TEXT (CODES + 1) ≡ first (missing_by l.order l.assembled l.target l.ends l.late) l.code (CODES + 1))
