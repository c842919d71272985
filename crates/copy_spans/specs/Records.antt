-- The spans of all blocks as one list of records L (document 01, "Forms to change"), and what the walks over such a list come to, whatever it holds. c is the code of a
-- section. What a walk answers is the index of a record; the length of the list where there is none.
use Rattle.std.specs.Prelude.{ℕ, ◌+◌, ◌≡◌, Bool, true, false, cond, ◌&&◌, ◌||◌, List, [], ◌∷◌, length, get_or, take, eqb, ltb}
use Rattle.base_lists.specs.Ranges.{first, select, pick_list}
use Rattle.base_scope.specs.Codes.{line_code, line_block}
use Rattle.blocks_places.specs.Lines.{line_count, span_size}
use Rattle.blocks_places.specs.Places.{Place, taken, place}
use Rattle.blocks_places.specs.Table.{low_place}
use Rattle.blocks_spans.specs.declared.Span.{Span}
use Rattle.blocks_spans.specs.Spans.{last_end}
use Rattle.blocks_spans.specs.Copied.{copied}
use Rattle.copy_spans.specs.declared.SpanRecord.{SpanRecord}

-- so few blocks have a shorter list
abbrev pub FEW_BLOCKS : ℕ
FEW_BLOCKS = 64

abbrev pub no_record : SpanRecord
no_record = record { code = 0; place = 0; size = 0; block = 0 }

-- the span of a record
unfoldable pub span_in : SpanRecord → Span
span_in x = record { place = x.place; size = x.size }

-- refusal 8 of a record in the section, where the section's last span before it ends at e: size 0, or a place below e
unfoldable pub is_low : ℕ → ℕ → SpanRecord → Bool
is_low c e x = eqb x.code c && low_place x.place x.size e

-- where the section's last span ends behind it
unfoldable pub end_behind : ℕ → ℕ → SpanRecord → ℕ
end_behind c e x = cond (eqb x.code c) (x.place + x.size) e

-- a span of the section that does not lie inside n bytes of C's section and m of A's
unfoldable pub is_outside : ℕ → ℕ → ℕ → SpanRecord → Bool
is_outside c n m x = eqb x.code c && (ltb n (x.place + x.size) || ltb m (x.place + x.size))

module _ (L : List SpanRecord) where
  unfoldable pub record_at : ℕ → SpanRecord
  record_at i = get_or L i no_record

  -- record i is one of the section
  unfoldable pub in_section : ℕ → ℕ → Bool
  in_section c i = eqb (record_at i).code c

  -- the spans of the section among the first n records
  unfoldable pub section_among : ℕ → ℕ → List Span
  section_among c n = select (in_section c) (λ i. span_in (record_at i)) n

  -- record i is at fault by 8, and the first that is
  unfoldable pub low_at : ℕ → ℕ → Bool
  low_at c i = is_low c (last_end (section_among c i)) (record_at i)

  unfoldable pub first_low : ℕ → ℕ
  first_low c = first (low_at c) 0 (length L)

  -- record i lies outside, and the first that does
  unfoldable pub outside_at : ℕ → ℕ → ℕ → ℕ → Bool
  outside_at c n m i = is_outside c n m (record_at i)

  unfoldable pub first_outside : ℕ → ℕ → ℕ → ℕ
  first_outside c n m = first (outside_at c n m) 0 (length L)

-- one record's turn in copying from A's section T: r says whether it is refused
pub record BlockCopied (x : SpanRecord) (c : ℕ) (T : List ℕ) (r : Bool) (before after : List ℕ) : Type 0 where
  pub answer : r ≡ is_outside c (length before) (length T) x
  pub stays : r ≡ true → after ≡ before
  pub bytes : r ≡ false → after ≡ copied (pick_list (eqb x.code c) (span_in x ∷ []) []) before T

-- what copying answers, and what it leaves: the records before the first that is refused are copied
pub record BlocksCopied (L : List SpanRecord) (c : ℕ) (T : List ℕ) (r : ℕ) (before after : List ℕ) : Type 0 where
  pub answer : r ≡ first_outside L c (length before) (length T)
  pub bytes : after ≡ copied (section_among L c r) before T

-- ---- the list of a block file B at the places P of its lines

module _ (P : List Place) (B : List ℕ) where
  unfoldable pub record_of : ℕ → SpanRecord
  record_of j = record { code = line_code j; place = place P j; size = span_size B j; block = line_block j }

  -- a record for each line that is taken
  unfoldable pub records_among : ℕ → List SpanRecord
  records_among n = select (taken P) record_of n

  unfoldable pub records : List SpanRecord
  records = records_among (line_count B)

  -- what filling a lent list answers, and what it leaves
  pub record Filled (r : ℕ) (after : List SpanRecord) : Type 0 where
    pub many : r ≡ length records
    pub rows : take r after ≡ records
