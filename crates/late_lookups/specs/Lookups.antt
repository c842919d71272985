-- The place of a late offset, as one answer (document 01, "Late words"; refusals 16 and 20: "not moved"): the place, or that it is not moved.
use Rattle.std.specs.Prelude.{ℕ, List, None, Some, Option}
use Rattle.base_fields.specs.declared.ByteOrder.{ByteOrder}
use Rattle.late_walk.specs.of_blocks_places.Places.{Place}
use Rattle.late_walk.specs.of_late_moves.Moved.{is_moved, moved_place}
use Rattle.late_lookups.specs.Fields.{pick_late_place}

unfoldable pub moved_offset : ByteOrder → List Place → List ℕ → List ℕ → ℕ → ℕ → Option ℕ
moved_offset o P B R s x = pick_late_place (is_moved P B s x) (Some (moved_place o P B R s x)) None
