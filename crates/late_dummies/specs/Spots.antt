-- Of the code, not of document 01: what the search for a dummy answers, the place of its late word or that it is lost (refusal 14).
use Rattle.std.specs.Prelude.{ℕ, ◌+◌, Bool, true, false, cond, List, length, ltb, None, Some, Option}
use Rattle.base_fields.specs.declared.ByteOrder.{ByteOrder}
use Rattle.late_dummies.specs.Dummies.{word_at, placed, is_lost}

abbrev pub pick_spot : Bool → Option ℕ → Option ℕ → Option ℕ
pick_spot true a b = a
pick_spot false a b = b

module _ (o : ByteOrder) (R : List ℕ) where
  -- the shift test at a place
  unfoldable pub shift_spot : ℕ → Option ℕ
  shift_spot at = pick_spot (ltb (length R) (at + 8)) None (Some (cond (word_at o R 0 (at + 4)) (at + 4) at))

  unfoldable pub spot : Bool → ℕ → ℕ → Option ℕ
  spot many last w = pick_spot (is_lost o R many last w) None (Some (placed o R many last w))
