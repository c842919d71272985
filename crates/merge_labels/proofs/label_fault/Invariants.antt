use Rattle.base_lists.specs.Ranges.{first}
use Rattle.blocks_places.specs.Lines.{line_count}
use Rattle.blocks_places.specs.Table.{places_in}
use Rattle.merge_labels.specs.Labels.{is_mislabelled, mislabelled_at}
use Prim.Native.Nat.{◌≤◌}
use mathlib.Core.Path.{◌≡◌}
use Rattle.merge_labels.proofs.label_fault.Given as goal

abbrev pub invariant-loop-j : goal.invariant-loop-j
invariant-loop-j l =
    (l.j ≤ line_count l.file) × (mislabelled_at l.order l.assembled (places_in l.places (line_count l.file)) l.file ≡ first (is_mislabelled l.order l.assembled (places_in l.places (line_count l.file)) l.file) l.j (line_count l.file))
