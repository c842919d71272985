use Rattle.base_lists.specs.Ranges.{first}
use Rattle.blocks_places.specs.Lines.{line_count}
use Rattle.blocks_places.specs.Table.{places_in}
use Rattle.merge_missing.specs.Missing.{is_uneven}
use Prim.Native.Nat.{◌≤◌}
use mathlib.Core.Path.{◌≡◌}
use Rattle.merge_missing.proofs.has_uneven.Given as goal

abbrev pub invariant-loop-j : goal.invariant-loop-j
invariant-loop-j l =
    (l.j ≤ line_count l.file) × (first (is_uneven (places_in l.places (line_count l.file)) l.file l.code) 0 (line_count l.file) ≡ first (is_uneven (places_in l.places (line_count l.file)) l.file l.code) l.j (line_count l.file))
