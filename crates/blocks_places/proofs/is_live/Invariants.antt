use Rattle.base_lists.specs.Ranges.{first}
use Rattle.base_scope.specs.Codes.{first_line}
use Rattle.blocks_places.specs.Lines.{line_count}
use Rattle.blocks_places.specs.Places.{untaken}
use Rattle.blocks_places.specs.Table.{places_in}
use Prim.Native.Nat.{◌+◌, ◌≤◌}
use mathlib.Core.Path.{◌≡◌}
use Rattle.blocks_places.proofs.is_live.Given as goal

abbrev pub invariant-loop-j : goal.invariant-loop-j
invariant-loop-j l = (first_line l.i ≤ l.j) × (l.j ≤ first_line (l.i + 1)) × (first (untaken (places_in l.places (line_count l.file)) l.file) (first_line l.i) l.j ≡ l.j)
