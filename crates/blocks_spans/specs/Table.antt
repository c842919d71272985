-- Of the code, not of document 01: the table of a section's spans, a row of two words for each (place and size), and what a binary search finds in it.
use Rattle.std.specs.Prelude.{ℕ, ◌+◌, ◌*◌, ◌≤◌, ◌<◌, ◌≡◌, Bool, true, false, List, [], ◌∷◌, length, ltb, None, Some, Option}
use Rattle.base_lists.specs.Ranges.{first, count, select, pick_list}
use Rattle.base_lists.specs.Records.{flat}
use Rattle.base_lists.specs.Windows.{spliced}
use Rattle.base_fields.specs.declared.ByteOrder.TheVariants.{Big}
use Rattle.base_fields.specs.Numbers.{number, encoded}
use Rattle.base_scope.specs.Codes.{CODES}
use Rattle.base_scope.specs.Limits.{SPAN_ROW, BLOCK_LIMIT}
use Rattle.blocks_places.specs.Lines.{line_count}
use Rattle.blocks_places.specs.Places.{Place}
use Rattle.blocks_spans.specs.declared.Span.{Span}
use Rattle.blocks_spans.specs.Spans.{span_end, is_span, span_of, spans_among, spans_of, span_at, last_end, Ascends}

-- row r of a table, and its first n rows
unfoldable pub span_in : List ℕ → ℕ → Span
span_in table r = record { place = number Big 4 table (SPAN_ROW * r); size = number Big 4 table (SPAN_ROW * r + 4) }

unfoldable pub spans_in : List ℕ → ℕ → List Span
spans_in table n = select (λ r. true) (span_in table) n

-- the ends of the last spans, by code
unfoldable pub span_ends : List Place → List ℕ → List ℕ
span_ends P B = select (λ c. true) (λ c. last_end (spans_of P B c)) (CODES + 1)

-- the bytes of a row
unfoldable pub span_row : Span → List ℕ
span_row s = flat (encoded Big 4) (s.place ∷ s.size ∷ [])

-- line j's turn in gathering: its row is written behind the r rows before it, where it has a span of code c
pub record Stored (P : List Place) (B : List ℕ) (c j r n : ℕ) (before after : List ℕ) : Type 0 where
  pub many : n ≡ count (is_span P B c) (j + 1)
  pub row : after ≡ spliced before (SPAN_ROW * r) (pick_list (is_span P B c j) (span_row (span_of P B j)) [])

-- what gathering the rows of a section's spans L answers, and what it leaves
pub record Gathered (L : List Span) (r : ℕ) (before after : List ℕ) : Type 0 where
  pub many : r ≡ length L
  pub rows : after ≡ spliced before 0 (flat span_row L)

-- n rows in hand, of spans that ascend
pub record Rows (table : List ℕ) (n : ℕ) : Type 0 where
  pub few : n ≤ BLOCK_LIMIT
  pub fits : SPAN_ROW * n ≤ length table
  pub ascends : Ascends (spans_in table n)

abbrev pick_span : Bool → Option Span → Option Span → Option Span
pick_span true a b = a
pick_span false a b = b

-- the first span that ends behind offset k: the one over k or, where there is none, the next one
module _ (L : List Span) where
  unfoldable pub ends_behind : ℕ → ℕ → Bool
  ends_behind k r = ltb k (span_end (span_at L r))

  unfoldable pub span_from : ℕ → ℕ
  span_from k = first (ends_behind k) 0 (length L)

  unfoldable pub next_span : ℕ → Option Span
  next_span k = pick_span (ltb (span_from k) (length L)) (Some (span_at L (span_from k))) None
