-- Refusals 8 and 9 (document 01's table, and "Order": "blocks, and their sections, in order by 8 then 9"); and what they leave true of the places.
use Rattle.std.specs.Prelude.{ℕ, ◌-◌, ◌%◌, ◌^◌, ◌≤◌, ◌<◌, ◌≡◌, Bool, true, false, not, ◌&&◌, ◌||◌, List, length, eqb, ltb, Result, Ok, Err}
use Rattle.base_lists.specs.Ranges.{first}
use Rattle.base_fields.specs.declared.ByteOrder.{ByteOrder}
use Rattle.base_scope.specs.Codes.{line_code, line_block}
use Rattle.blocks_places.specs.declared.PlaceFault.{PlaceFault}
use Rattle.blocks_places.specs.declared.PlaceFault.TheVariants.{Misplaced, Misaligned}
use Rattle.blocks_places.specs.Lines.{line_count, labelled, span_size, span_align8}
use Rattle.blocks_places.specs.Places.{Place, label_value, reached, is_placed, places_of, taken, place, end_at}

-- an align8 that is not 0 and not 8 - (place mod 8)
unfoldable pub odd_place : ℕ → ℕ → Bool
odd_place place align8 = not (eqb align8 0) && not (eqb align8 (8 - place % 8))

-- every line is placed, or the block at fault by 8 or by 9
abbrev pub Placing : Type 0
Placing = Result (Unit {0}) PlaceFault

abbrev pub Placed : Placing
Placed = Ok tt

abbrev pick_placing : Bool → Placing → Placing → Placing
pick_placing true a b = a
pick_placing false a b = b

module _ (o : ByteOrder) (C B : List ℕ) where
  -- refusal 8: size 0 (label absent too), or a place below the end of the block before in that section
  unfoldable pub sizeless : ℕ → Bool
  sizeless j = labelled B j && (reached o C B j && eqb (span_size B j) 0)

  unfoldable pub early : ℕ → Bool
  early j = is_placed o C B j && ltb (label_value o C B j) (end_at (places_of o C B) B j (line_code j))

  unfoldable pub fault8 : ℕ → Bool
  fault8 j = sizeless j || early j

  -- refusal 9: align8 not 0 and not 8 - (place mod 8)
  unfoldable pub fault9 : ℕ → Bool
  fault9 j = is_placed o C B j && odd_place (label_value o C B j) (span_align8 B j)

  unfoldable pub is_misplaced : ℕ → Bool
  is_misplaced j = fault8 j || fault9 j

  -- the first line at fault; all of them where there is none
  unfoldable pub misplaced_at : ℕ
  misplaced_at = first is_misplaced 0 (line_count B)

  -- placed, or the block at fault by 8 or by 9
  unfoldable pub placing : Placing
  placing =
      pick_placing (ltb misplaced_at (line_count B))
      (pick_placing (fault8 misplaced_at) (Err (Misplaced (line_block misplaced_at))) (Err (Misaligned (line_block misplaced_at))))
      Placed

-- what they leave true of the places P of the lines of B: a line that is taken has a label and a size, starts behind the end before it in its section, and at a
-- place that is a word (proofs/Walk.antt, `fitting_of`)
pub record Fitting (P : List Place) (B : List ℕ) : Type 0 where
  pub many : length P ≡ line_count B
  pub labels : (j : ℕ) → taken P j ≡ true → labelled B j ≡ true
  pub sized : (j : ℕ) → taken P j ≡ true → 0 < span_size B j
  pub behind : (j : ℕ) → taken P j ≡ true → end_at P B j (line_code j) ≤ place P j
  pub small : (j : ℕ) → place P j < 2 ^ 32
