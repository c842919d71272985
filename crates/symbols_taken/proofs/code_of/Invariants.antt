use Rattle.base_lists.specs.Ranges.{first}
use Rattle.base_scope.specs.Codes.{TEXT, LATE_RODATA}
use Rattle.symbols_taken.specs.Code.{is_section_in}
use Prim.Native.Nat.{◌+◌}
use mathlib.Core.Path.{◌≡◌}
use Rattle.symbols_taken.proofs.code_of.Given as goal

abbrev pub invariant-loop-code : goal.invariant-loop-code
invariant-loop-code l = first (is_section_in l.view l.s) TEXT (LATE_RODATA + 1) ≡ first (is_section_in l.view l.s) l.code (LATE_RODATA + 1)
