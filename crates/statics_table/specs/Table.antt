-- Of the code, not of document 01: the table of statics, a row of 15 bytes for each, and what is asked of a table in hand.
use Rattle.std.specs.Prelude.{ℕ, ◌+◌, ◌*◌, ◌^◌, ◌≤◌, ◌<◌, true, List, [], ◌∷◌, ◌≡◌, length}
use Rattle.base_lists.specs.Ranges.{select}
use Rattle.base_lists.specs.Records.{flat}
use Rattle.base_lists.specs.Windows.{Within}
use Rattle.base_fields.specs.declared.ByteOrder.TheVariants.{Big}
use Rattle.base_fields.specs.Numbers.{number}
use Rattle.base_fields.specs.Layouts.{record_bytes}
use Rattle.base_scope.specs.Limits.{STATIC_LIMIT, WRITTEN_LIMIT, STATIC_ROW, STATIC_TABLE}
use Rattle.statics_table.specs.declared.Static.{Static}
use Rattle.statics_table.specs.declared.Tally.{Tally}
use Rattle.statics_table.specs.Statics.{stored_name, names_length, namesakes}

-- a row: four bytes for the value, one for the code, three for the start, two for the length, two for the count, three for the offset
unfoldable pub static_row : Static → List ℕ
static_row s = record_bytes Big (4 ∷ 1 ∷ 3 ∷ 2 ∷ 2 ∷ 3 ∷ []) (s.value ∷ s.code ∷ s.start ∷ s.length ∷ s.number ∷ s.offset ∷ [])

-- a static's fields fit these bytes; its value always does
pub record RowFits (s : Static) : Type 0 where
  pub code : s.code < 2 ^ 8
  pub start : s.start < 2 ^ 24
  pub length : s.length < 2 ^ 16
  pub number : s.number < 2 ^ 16
  pub offset : s.offset < 2 ^ 24

unfoldable pub static_rows : List Static → List ℕ
static_rows l = flat static_row l

-- row k of a table T
unfoldable pub static_in : List ℕ → ℕ → Static
static_in T k = record {
  value = number Big 4 T (STATIC_ROW * k);
  code = number Big 1 T (STATIC_ROW * k + 4);
  start = number Big 3 T (STATIC_ROW * k + 5);
  length = number Big 2 T (STATIC_ROW * k + 8);
  number = number Big 2 T (STATIC_ROW * k + 10);
  offset = number Big 3 T (STATIC_ROW * k + 12);
}

-- its first n rows
unfoldable pub statics_in : List ℕ → ℕ → List Static
statics_in T n = select (λ k. true) (static_in T) n

-- each of the first n statics that has a count has one more than its namesakes before it
pub record Numbered (C : List ℕ) (f : ℕ → Static) (n : ℕ) : Type 0 where
  pub each : (k : ℕ) → k < n → 0 < (f k).number → (f k).number ≡ namesakes C (stored_name C (f k)) f k + 1

-- the first n rows of a table T are there, and the statics in them are counted
pub record CountedRows (C T : List ℕ) (n : ℕ) : Type 0 where
  pub few : n ≤ STATIC_LIMIT
  pub long : STATIC_ROW * n ≤ length T
  pub numbered : Numbered C (static_in T) n

-- a table with room for all statics, filled as far as t says: its rows are counted, and its size is the bytes of their written names, each behind a head of so many
pub record StaticTable (head : ℕ) (C T : List ℕ) (t : Tally) : Type 0 where
  pub counted : CountedRows C T t.count
  pub room : STATIC_TABLE ≤ length T
  pub row : Within (static_rows (statics_in T t.count)) 0 T
  pub names : t.size ≡ names_length head (statics_in T t.count)
  pub low : t.size ≤ WRITTEN_LIMIT * t.count
