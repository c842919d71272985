-- Of the code, not of document 01: what is read in the table of the late step. The fields of a row are a late offset, a number of dummies and a last place. All three
-- ascend, so a row is found by binary search.
use Rattle.std.specs.Prelude.{ℕ, ◌+◌, ◌-◌, ◌*◌, ◌/◌, ◌%◌, ◌≤◌, ◌<◌, Bool, true, false, cond, ◌&&◌, List, length, leb, ltb, eqb, None, Some, Option}
use Rattle.base_lists.specs.Ranges.{first}
use Rattle.base_fields.specs.declared.ByteOrder.TheVariants.{Big}
use Rattle.base_fields.specs.Numbers.{number}
use Rattle.base_scope.specs.Limits.{BLOCK_LIMIT, LATE_ROW, LATE_WORDS}

abbrev pub pick_late_place : Bool → Option ℕ → Option ℕ → Option ℕ
pick_late_place true a b = a
pick_late_place false a b = b

-- the fields of a row
abbrev pub SOURCE : ℕ
SOURCE = 0

abbrev pub DUMMIES : ℕ
DUMMIES = 1

abbrev pub LAST : ℕ
LAST = 2

module _ (late : List ℕ) where
  -- field f of row i
  unfoldable pub late_field : ℕ → ℕ → ℕ
  late_field f i = number Big 4 late (LATE_ROW * i + 4 * f)

  -- the place of dummy m of all
  unfoldable pub late_word : ℕ → ℕ
  late_word m = number Big 3 late (LATE_WORDS + 3 * m)

  -- how many dummies block i has, and how many bytes its jump table
  unfoldable pub row_dummies : ℕ → ℕ
  row_dummies i = late_field DUMMIES (i + 1) - late_field DUMMIES i

  unfoldable pub row_bytes : ℕ → ℕ
  row_bytes i = late_field SOURCE (i + 1) - late_field SOURCE i - 4 * row_dummies i

  -- field f of the row behind block i is past x
  unfoldable pub is_past : ℕ → ℕ → ℕ → Bool
  is_past f x i = ltb x (late_field f (i + 1))

  -- of n blocks, the first whose next row is past x in field f
  unfoldable pub row_past : ℕ → ℕ → ℕ → ℕ
  row_past f n x = first (is_past f x) 0 n

  -- the place of offset x in block i: that of its dummy, or so far before the end of its jump table as the offset is before the end of its part
  unfoldable pub place_in_row : ℕ → ℕ → ℕ
  place_in_row i x =
      cond (ltb ((x - late_field SOURCE i) / 4) (row_dummies i))
      (late_word (late_field DUMMIES i + (x - late_field SOURCE i) / 4))
      (late_field LAST (i + 1) - (late_field SOURCE (i + 1) - x))

  -- a word starts at offset x of block i
  unfoldable pub is_start : ℕ → ℕ → Bool
  is_start i x = leb (late_field SOURCE i) x && eqb ((x - late_field SOURCE i) % 4) 0

  unfoldable pub offset_at : ℕ → ℕ → Option ℕ
  offset_at n x = pick_late_place (ltb (row_past SOURCE n x) n && is_start (row_past SOURCE n x) x) (Some (place_in_row (row_past SOURCE n x) x)) None

  -- a word of block i's jump table, which ends at the next row's last place, is at x
  unfoldable pub is_table_word : ℕ → ℕ → Bool
  is_table_word i x = leb (late_field LAST (i + 1)) (x + row_bytes i) && eqb ((x + row_bytes i - late_field LAST (i + 1)) % 4) 0

  unfoldable pub jump_at : ℕ → ℕ → Bool
  jump_at n x = ltb (row_past LAST n x) n && is_table_word (row_past LAST n x) x

-- the row of block i and the one behind it: the fields ascend, the places are there, and the numbers fit
pub record AtRow (late : List ℕ) (i : ℕ) : Type 0 where
  pub few : i < BLOCK_LIMIT
  pub long : LATE_ROW * (i + 1) + LATE_ROW ≤ length late
  pub rises : (f : ℕ) → f < 3 → late_field late f i ≤ late_field late f (i + 1)
  pub words : LATE_WORDS + 3 * late_field late DUMMIES (i + 1) ≤ length late
  pub parts : late_field late SOURCE i + 4 * row_dummies late i ≤ late_field late SOURCE (i + 1)
  pub tables : row_bytes late i ≤ late_field late LAST (i + 1)

-- a table of n blocks
pub record LateRows (late : List ℕ) (n : ℕ) : Type 0 where
  pub few : n ≤ BLOCK_LIMIT
  pub rows : (i : ℕ) → i < n → AtRow late i
