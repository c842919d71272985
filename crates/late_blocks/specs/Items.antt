-- Of the code, not of document 01: the items of one block, as functions of the last place before it, and what the code answers of them.
use Rattle.std.specs.Prelude.{ℕ, ◌+◌, Bool, true, ◌&&◌, ◌||◌, List, length, eqb, ltb, None, Some, Option}
use Rattle.base_lists.specs.Ranges.{first, select}
use Rattle.base_lists.specs.Records.{flat}
use Rattle.base_fields.specs.declared.ByteOrder.{ByteOrder}
use Rattle.base_fields.specs.declared.ByteOrder.TheVariants.{Big}
use Rattle.base_fields.specs.Numbers.{encoded}
use Rattle.late_dummies.specs.Spots.{pick_spot}
use Rattle.late_moves.specs.Moves.{item_place, item_fault, last_from}

module _ (R : List ℕ) where
  -- the end of a jump table of n bytes behind so many dummies, or refusal 14
  unfoldable pub table_spot : ℕ → ℕ → ℕ → Option ℕ
  table_spot count n last = pick_spot (ltb 0 n && (eqb count 0 || ltb (length R) (last + n))) None (Some (last + n))

module _ (o : ByteOrder) (B R : List ℕ) (i last : ℕ) where
  -- item k of block i, where `last` is the last place before the block
  unfoldable pub place_from : ℕ → ℕ
  place_from k = item_place o B R i (last_from o B R i last k) k

  unfoldable pub fault_from : ℕ → Bool
  fault_from k = item_fault o B R i (last_from o B R i last k) k

  -- of its first n items, those before the first at fault
  unfoldable pub sound_items : ℕ → ℕ
  sound_items n = first fault_from 0 n

  -- their places, three bytes each
  unfoldable pub place_words : ℕ → List ℕ
  place_words n = flat (encoded Big 3) (select (λ k. true) place_from (sound_items n))

  -- the end of the last of them, or refusal 14
  unfoldable pub items_spot : ℕ → Option ℕ
  items_spot n = pick_spot (ltb (sound_items n) n) None (Some (last_from o B R i last n))
