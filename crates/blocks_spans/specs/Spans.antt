-- The spans of a block file B at the places P of its lines (document 01, "Steps"), one section at a time: a list in the order of their lines, which is the order of
-- their places once 8 has passed. A span counts also where a later label switches its block off.
use Rattle.std.specs.Prelude.{ℕ, ◌+◌, ◌-◌, ◌%◌, ◌≤◌, ◌<◌, Bool, true, false, ◌&&◌, List, length, get_or, eqb, ltb, leb}
use Rattle.base_lists.specs.Ranges.{first, select}
use Rattle.base_scope.specs.Codes.{line_code}
use Rattle.blocks_places.specs.Lines.{line_count, span_size}
use Rattle.blocks_places.specs.Places.{Place, taken, place}
use Rattle.blocks_spans.specs.declared.Span.{Span}

abbrev pub no_span : Span
no_span = record { place = 0; size = 0 }

-- where a span ends
unfoldable pub span_end : Span → ℕ
span_end s = s.place + s.size

module _ (P : List Place) (B : List ℕ) where
  -- line j has a span in the section of code c
  unfoldable pub is_span : ℕ → ℕ → Bool
  is_span c j = taken P j && eqb (line_code j) c

  unfoldable pub span_of : ℕ → Span
  span_of j = record { place = place P j; size = span_size B j }

  -- those of code c among the first n lines, and all
  unfoldable pub spans_among : ℕ → ℕ → List Span
  spans_among c n = select (is_span c) span_of n

  unfoldable pub spans_of : ℕ → List Span
  spans_of c = spans_among c (line_count B)

module _ (L : List Span) where
  unfoldable pub span_at : ℕ → Span
  span_at r = get_or L r no_span

  -- span r holds offset k
  unfoldable pub covers : ℕ → ℕ → Bool
  covers k r = leb (span_at r).place k && ltb k (span_end (span_at r))

  -- some span does
  unfoldable pub is_covered : ℕ → Bool
  is_covered k = ltb (first (covers k) 0 (length L)) (length L)

  -- the end of the last span, 0 where there is none
  unfoldable pub last_end : ℕ
  last_end = span_end (span_at (length L - 1))

  -- offset k is the start of a word of span r, and of some span: a replaced word
  unfoldable pub is_word_of : ℕ → ℕ → Bool
  is_word_of k r = covers k r && eqb ((k - (span_at r).place) % 4) 0

  unfoldable pub replaced_word : ℕ → Bool
  replaced_word k = ltb (first (is_word_of k) 0 (length L)) (length L)

-- none is empty, and each starts behind the end of those before it: what 8 leaves (proofs/Spans.antt, `spans_ascend`)
pub record Ascends (L : List Span) : Type 0 where
  pub sized : (r : ℕ) → r < length L → 0 < (span_at L r).size
  pub apart : (i j : ℕ) → i < j → j < length L → span_end (span_at L i) ≤ (span_at L j).place

-- every span ends at m at the latest
abbrev pub EndsBy : List Span → ℕ → Type 0
EndsBy L m = (r : ℕ) → r < length L → span_end (span_at L r) ≤ m
