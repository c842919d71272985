use Rattle.base_lists.specs.Ranges.{first}
use Rattle.base_scope.specs.Codes.{TEXT, LATE_RODATA}
use Rattle.merge_missing.specs.Missing.{goes_to}
use Prim.Native.Nat.{◌+◌, ◌≤◌}
use mathlib.Core.Path.{◌≡◌}
use Rattle.merge_missing.proofs.is_target.Given as goal

abbrev pub invariant-loop-code : goal.invariant-loop-code
invariant-loop-code l =
    (TEXT ≤ l.code) × (l.code ≤ LATE_RODATA + 1) × (first (goes_to l.order l.assembled l.target) TEXT (LATE_RODATA + 1) ≡ first (goes_to l.order l.assembled l.target) l.code (LATE_RODATA + 1))
