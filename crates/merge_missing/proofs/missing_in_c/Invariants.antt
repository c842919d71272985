use Rattle.base_lists.specs.Ranges.{first}
use Rattle.base_scope.specs.Codes.{TEXT, CODES}
use Rattle.blocks_places.specs.Lines.{line_count}
use Rattle.blocks_places.specs.Table.{places_in}
use Rattle.merge_missing.specs.Missing.{missing_c}
use Prim.Native.Nat.{◌+◌, ◌≤◌}
use mathlib.Core.Path.{◌≡◌}
use Rattle.merge_missing.proofs.missing_in_c.Given as goal

abbrev pub invariant-loop-code : goal.invariant-loop-code
invariant-loop-code l =
    (TEXT ≤ l.code) × (l.code ≤ CODES + 1)
    × (first (missing_c l.inputs.order l.compiled l.assembled (places_in l.places (line_count l.file)) l.file) TEXT (CODES + 1) ≡ first (missing_c l.inputs.order l.compiled l.assembled (places_in l.places (line_count l.file)) l.file) l.code (CODES + 1))
