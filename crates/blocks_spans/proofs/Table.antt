-- The laws of the table of spans: rows are read back; the loop that gathers them; and the first row that ends behind an offset, by which it is told whether the offset
-- lies under a span. Assumes nothing.
use Rattle.std.specs.Prelude.{None, Some}
use Prim.Native.Nat.{ℕ, zero, suc, ◌+◌, ◌-◌, ◌*◌, ◌%◌, ◌^◌, ◌≤◌, ◌<◌}
use mathlib.Core.Path.{◌≡◌, refl, sym, ap, ◌∙◌}
use mathlib.Core.Logic.{◌⊎◌, inl, inr}
use mathlib.Core.Bool.{Bool, true, false}
use mathlib.Core.List.{List, [], ◌∷◌, ◌++◌, append-nil}
use native.Mathlib.Omega.{arith}
use lib.ListN.{length, get_or, set, replicate, length-set, get_or-replicate}
use lib.Seq.{ext_get_or, get_or-set_same, get_or-set_other}
use lib.Dec.{eqb, ltb}
use borrow.Author.Tests.{lt-ltb, le-ltb, ltb-true, ltb-false, eqb-true, eqb-false}
use Rattle.base_lists.specs.Ranges.{first, count, select, pick_list, IsFirst}
use Rattle.base_lists.specs.Records.{flat}
use Rattle.base_lists.specs.Windows.{Within, spliced}
use Rattle.base_lists.proofs.Ranges.{by-test, both, by-lt, first_is, first_high, count_zero, count_yes, count_no, select_all_length, select_all_at, select_all_is}
use Rattle.base_lists.proofs.Windows.{within_at, within_within, within_spliced, within_fits, length_spliced, spliced_nil, spliced_then}
use Rattle.base_lists.proofs.Records.{flat_append, flat_none, flat_one, length_flat, within_flat}
use Rattle.base_lists.proofs.Halves.{GoesOn}
use Rattle.base_fields.specs.declared.ByteOrder.TheVariants.{Big}
use Rattle.base_fields.specs.Numbers.{number, encoded}
use Rattle.base_fields.proofs.Numbers.{length_encoded, within_number}
use Rattle.base_scope.specs.Codes.{CODES, line_code}
use Rattle.base_scope.specs.Limits.{SPAN_ROW, SPAN_TABLE, BLOCK_LIMIT}
use Rattle.blocks_places.specs.Lines.{line_count}
use Rattle.blocks_places.specs.Places.{Place, end_at}
use Rattle.blocks_places.proofs.Places.{end_none, end_other}
use Rattle.blocks_places.specs.Faults.{Fitting}
use Rattle.blocks_spans.specs.declared.Span.{Span}
use Rattle.blocks_spans.specs.Spans.{no_span, span_end, is_span, span_of, spans_among, spans_of, span_at, last_end, covers, is_covered, replaced_word, Ascends}
use Rattle.blocks_spans.specs.Table.{span_in, spans_in, span_ends, span_row, Stored, Gathered, Rows, ends_behind, span_from, next_span}
use Rattle.blocks_spans.proofs.Spans.{rows_before, rows_few, length_among, length_spans, among_none, among_yes, among_no, end_spans, spans_ascend, covers_of, covers_not, covered_by_lem, covered_none, span_some, ends_up, replaced_none, replaced_over}

-- ---- rows

pub length_span_row : (s : Span) → length (span_row s) ≡ SPAN_ROW
unfolding span_row
length_span_row s = length_flat (encoded Big 4) 4 (length_encoded Big 4) (s.place ∷ s.size ∷ [])

-- a row that stands in a table, read back
module _ (s : Span) (r : ℕ) (table : List ℕ) (w : Within (span_row s) (SPAN_ROW * r) table) where
  within_word : (k : ℕ) → k < 2 → Within (encoded Big 4 (get_or (s.place ∷ s.size ∷ []) k 0)) (4 * k) (span_row s)
  unfolding span_row
  within_word k h = within_flat (encoded Big 4) 4 (length_encoded Big 4) (s.place ∷ s.size ∷ []) k 0 h

  word_at_lem : (k : ℕ) → k < 2 → number Big 4 table (SPAN_ROW * r + 4 * k) ≡ get_or (s.place ∷ s.size ∷ []) k 0
  word_at_lem k h = within_number Big 3 _ (SPAN_ROW * r + 4 * k) table (within_within _ (span_row s) table (SPAN_ROW * r) (4 * k) (within_word k h) w)

  span_read : span_in table r ≡ s
  unfolding span_in
  span_read =
      let z : SPAN_ROW * r ≡ SPAN_ROW * r + 4 * 0 = omega arith in
      let p : number Big 4 table (SPAN_ROW * r) ≡ s.place = ap (number Big 4 table) z ∙ word_at_lem 0 (omega arith) in
      let e : number Big 4 table (SPAN_ROW * r + 4) ≡ s.size = word_at_lem 1 (omega arith) in
      λ k. record { place = p k; size = e k }

pub length_in : (table : List ℕ) (n : ℕ) → length (spans_in table n) ≡ n
unfolding spans_in
length_in table n = select_all_length (span_in table) n

pub span_in_lem : (table : List ℕ) (n r : ℕ) → r < n → span_at (spans_in table n) r ≡ span_in table r
unfolding span_at spans_in
span_in_lem table n r h = select_all_at (span_in table) r n no_span h

-- the rows of a list that stand at the front of a table, read back
pub spans_read : (L : List Span) (table : List ℕ) → Within (flat span_row L) 0 table → spans_in table (length L) ≡ L
unfolding spans_in
spans_read L table w = select_all_is L (span_in table) no_span (λ r h.
    span_read (get_or L r no_span) r table
    (within_at (span_row (get_or L r no_span)) table (0 + SPAN_ROW * r) (SPAN_ROW * r) (omega arith)
    (within_within (span_row (get_or L r no_span)) (flat span_row L) table 0 (SPAN_ROW * r) (within_flat span_row SPAN_ROW length_span_row L r no_span h) w)))

-- ---- the loop that gathers

module _ (P : List Place) (B : List ℕ) where
  -- after j lines: r rows stand in the table
  pub record Gathering (c : ℕ) (before : List ℕ) (j r : ℕ) (after : List ℕ) : Type 0 where
    pub few : j ≤ line_count B
    pub many : r ≡ count (is_span P B c) j
    pub long : length after ≡ length before
    pub rows : after ≡ spliced before 0 (flat span_row (spans_among P B c j))

  pub gathering_none : (c : ℕ) (before : List ℕ) → Gathering c before 0 0 before
  gathering_none c before = record {
    few = omega arith;
    many = sym (count_zero (is_span P B c));
    long = refl;
    rows = sym (ap (λ (L : List Span). spliced before 0 (flat span_row L)) (among_none P B c) ∙ ap (spliced before 0) (flat_none span_row) ∙ spliced_nil before 0);
  }

  rows_next : (c j : ℕ) → is_span P B c j ≡ true → flat span_row (spans_among P B c (j + 1)) ≡ flat span_row (spans_among P B c j) ++ span_row (span_of P B j)
  rows_next c j t =
      ap (flat span_row) (among_yes P B c j t) ∙ flat_append span_row (spans_among P B c j) (span_of P B j ∷ [])
      ∙ ap (λ (x : List ℕ). flat span_row (spans_among P B c j) ++ x) (flat_one span_row (span_of P B j))

  length_rows : (c j : ℕ) → length (flat span_row (spans_among P B c j)) ≡ SPAN_ROW * count (is_span P B c) j
  length_rows c j = length_flat span_row SPAN_ROW length_span_row (spans_among P B c j) ∙ ap (λ (n : ℕ). SPAN_ROW * n) (length_among P B c j)

  module _ (c : ℕ) (before : List ℕ) (j r : ℕ) (after : List ℕ) (w : Gathering c before j r after) where
    pub gathering_next : (n : ℕ) (last : List ℕ) → j < line_count B → SPAN_TABLE ≤ length before → Stored P B c j r n after last → Gathering c before (j + 1) n last
    gathering_next n last h l s = by-test (is_span P B c j)
        (λ t.
        let row = span_row (span_of P B j) in
        let e : last ≡ spliced after (SPAN_ROW * r) row = rw t at s.row in
        let m : SPAN_ROW * r + SPAN_ROW ≤ length before = omega (arith, rows_before P B c j t h, w.many) in
        let k : SPAN_ROW * r + length row ≤ length before = omega (arith, length_span_row (span_of P B j)) in
        let i : SPAN_ROW * r ≡ 0 + length (flat span_row (spans_among P B c j)) = omega (arith, length_rows c j, w.many) in
        record {
          few = omega arith;
          many = s.many;
          long = ap length e ∙ length_spliced after (SPAN_ROW * r) row (rw w.long k) ∙ w.long;
          rows =
              e ∙ ap (λ (x : List ℕ). spliced x (SPAN_ROW * r) row) w.rows
              ∙ spliced_then before 0 (flat span_row (spans_among P B c j)) row (SPAN_ROW * r) i k
              ∙ ap (spliced before 0) (sym (rows_next c j t));
        })
        (λ f.
        let e : last ≡ after = (rw f at s.row) ∙ spliced_nil after (SPAN_ROW * r) in
        record {
          few = omega arith;
          many = s.many;
          long = ap length e ∙ w.long;
          rows = e ∙ w.rows ∙ ap (λ (L : List Span). spliced before 0 (flat span_row L)) (sym (among_no P B c j f));
        })

    pub gathering_end : line_count B ≤ j → Gathered (spans_of P B c) r before after
    unfolding spans_of
    gathering_end h =
        let e : j ≡ line_count B = omega (arith, w.few) in
        record {
          many = w.many ∙ sym (length_among P B c j) ∙ ap (λ (n : ℕ). length (spans_among P B c n)) e;
          rows = w.rows ∙ ap (λ (n : ℕ). spliced before 0 (flat span_row (spans_among P B c n))) e;
        }

  -- the ways of a line's turn
  pub stored_yes : (c j r n : ℕ) (before after : List ℕ) (x y : ℕ) → is_span P B c j ≡ true → r ≡ count (is_span P B c) j → n ≡ r + 1
      → x ≡ (span_of P B j).place → y ≡ (span_of P B j).size → after ≡ spliced before (SPAN_ROW * r) (flat (encoded Big 4) (x ∷ y ∷ []))
      → Stored P B c j r n before after
  unfolding span_row
  stored_yes c j r n before after x y t e m p z a = record {
    many = m ∙ ap (λ (i : ℕ). i + 1) e ∙ sym (count_yes (is_span P B c) j t);
    row = rw t (rw (← p, ← z) a);
  }

  pub stored_no : (c j r : ℕ) (before : List ℕ) → is_span P B c j ≡ false → r ≡ count (is_span P B c) j → Stored P B c j r r before before
  stored_no c j r before f e = record {
    many = e ∙ sym (count_no (is_span P B c) j f);
    row = rw f (sym (spliced_nil before (SPAN_ROW * r)));
  }

-- ---- the rows that gathering leaves

module _ (P : List Place) (B : List ℕ) (f : Fitting P B) (c r : ℕ) (before after : List ℕ) (room : SPAN_TABLE ≤ length before) (g : Gathered (spans_of P B c) r before after) where
  few : r ≤ BLOCK_LIMIT
  few = omega (arith, g.many, length_spans P B c, rows_few P B c)

  room_for : 0 + length (flat span_row (spans_of P B c)) ≤ length before
  room_for = omega (arith, length_flat span_row SPAN_ROW length_span_row (spans_of P B c), g.many, few)

  pub gathered_is : spans_in after r ≡ spans_of P B c
  gathered_is =
      ap (spans_in after) g.many
      ∙ spans_read (spans_of P B c) after (rw g.rows (within_spliced before 0 (flat span_row (spans_of P B c)) room_for))

  pub rows_of : Rows after r
  rows_of = record {
    few = few;
    fits = omega (arith, few, ap length g.rows, length_spliced before 0 (flat span_row (spans_of P B c)) room_for);
    ascends = rw gathered_is (spans_ascend P B f c);
  }

-- ---- the first row that ends behind an offset

module _ (L : List Span) (a : Ascends L) (k : ℕ) where
  pub behind_on : GoesOn (ends_behind L k) (length L)
  unfolding ends_behind
  behind_on i j l h t = lt-ltb k (span_end (span_at L j)) (omega (arith, ltb-true k (span_end (span_at L i)) t, ends_up L a i j l h))

-- and over the rows of a table
module _ (table : List ℕ) (n k : ℕ) where
  pub behind_rows : Rows table n → GoesOn (ends_behind (spans_in table n) k) n
  behind_rows w = rw (length_in table n) at (behind_on (spans_in table n) w.ascends k)

  pub behind_read : (r : ℕ) → r < n → ends_behind (spans_in table n) k r ≡ ltb k (span_end (span_in table r))
  unfolding ends_behind
  behind_read r h = rw (span_in_lem table n r h)

module _ (L : List Span) (k : ℕ) where
  from_is : IsFirst (ends_behind L k) 0 (length L) (span_from L k)
  unfolding span_from
  from_is = first_is (ends_behind L k) 0 (length L) (omega arith)

  pub from_high : span_from L k ≤ length L
  unfolding span_from
  from_high = first_high (ends_behind L k) 0 (length L) (omega arith)

  pub from_end : span_from L k < length L → k < span_end (span_at L (span_from L k))
  unfolding ends_behind
  from_end h = ltb-true _ _ (from_is.here h)

  -- every span before it ends at k at the latest
  pub from_before : (r : ℕ) → r < span_from L k → span_end (span_at L r) ≤ k
  unfolding ends_behind
  from_before r h = ltb-false k (span_end (span_at L r)) (from_is.below r (omega arith) h)

  pub next_there : span_from L k < length L → Some (span_at L (span_from L k)) ≡ next_span L k
  unfolding next_span
  next_there h = rw (lt-ltb _ _ h)

  pub next_none : length L ≤ span_from L k → None ≡ next_span L k
  unfolding next_span
  next_none h = rw (le-ltb _ _ h)

  -- and what an answer tells
  pub told_none : next_span L k ≡ None → length L ≤ span_from L k
  told_none e = by-lt (span_from L k) (length L) (λ h. both (apart _ (next_there h ∙ e)) refl) (λ h. h)
    where
      apart : (s : Span) → Some s ≡ None → false ≡ true
      apart s e = cc

  pub told_span : (s : Span) → next_span L k ≡ Some s → (span_from L k < length L) × (s ≡ span_at L (span_from L k))
  told_span s e = by-lt (span_from L k) (length L)
      (λ h. (h, part _ _ (next_there h ∙ e)))
      (λ h. both (apart s (next_none h ∙ e)) refl)
    where
      apart : (s : Span) → None ≡ Some s → false ≡ true
      apart s e = cc

      part : (s t : Span) → Some s ≡ Some t → t ≡ s
      part s t e = cc

-- ---- where an offset lies

module _ (L : List Span) (a : Ascends L) (k : ℕ) where
  -- no span ends behind k: from k on no offset is covered
  pub from_none : length L ≤ span_from L k → (m : ℕ) → k ≤ m → is_covered L m ≡ false
  from_none h m l = covered_none L m (λ r u. covers_not L m r (inl (omega (arith, from_before L k r (omega arith)))))

  module _ (h : span_from L k < length L) where
    -- from the span's place to its end every offset is covered
    pub from_over : (m : ℕ) → (span_at L (span_from L k)).place ≤ m → m < span_end (span_at L (span_from L k)) → is_covered L m ≡ true
    from_over m l u = covered_by_lem L m (span_from L k) h (covers_of L m (span_from L k) l u)

    -- and from k to its place none
    pub from_gap : (m : ℕ) → k ≤ m → m < (span_at L (span_from L k)).place → is_covered L m ≡ false
    from_gap m l u = covered_none L m (λ r v. covers_not L m r (by-lt r (span_from L k)
        (λ g. inl (omega (arith, from_before L k r g)))
        (λ g. by-lt (span_from L k) r
        (λ q. inr (omega (arith, a.apart (span_from L k) r q v, span_some L a (span_from L k) h)))
        (λ q. let e : span_from L k ≡ r = omega arith in inr (rw e at u)))))

-- a replaced word, by the first span that ends behind k
module _ (L : List Span) (a : Ascends L) (k : ℕ) where
  pub replaced_clear : next_span L k ≡ None → false ≡ replaced_word L k
  replaced_clear e = sym (replaced_none L k (from_none L a k (told_none L k e) k (omega arith)))

  pub replaced_gap : (s : Span) → next_span L k ≡ Some s → k < s.place → false ≡ replaced_word L k
  replaced_gap s e h =
      let t = told_span L k s e in
      sym (replaced_none L k (from_gap L a k t.0 k (omega arith) (rw t.1 at h)))

  pub replaced_word_lem : (s : Span) → next_span L k ≡ Some s → s.place ≤ k → eqb ((k - s.place) % 4) 0 ≡ replaced_word L k
  replaced_word_lem s e h =
      let t = told_span L k s e in
      let c = covers_of L k (span_from L k) (rw t.1 at h) (from_end L k t.0) in
      ap (λ (x : Span). eqb ((k - x.place) % 4) 0) t.1 ∙ sym (replaced_over L k a (span_from L k) t.0 c)

-- ---- the row that a search finds

module _ (table : List ℕ) (n k r : ℕ) (e : r ≡ first (ends_behind (spans_in table n) k) 0 n) where
  from_row : span_from (spans_in table n) k ≡ r
  unfolding span_from
  from_row = rw (length_in table n) (sym e)

  pub row_next : r < n → Some (span_in table r) ≡ next_span (spans_in table n) k
  row_next h =
      ap Some (sym (ap (span_at (spans_in table n)) from_row ∙ span_in_lem table n r h))
      ∙ next_there (spans_in table n) k (rw (from_row, length_in table n) h)

  pub row_none : n ≤ r → None ≡ next_span (spans_in table n) k
  row_none h = next_none (spans_in table n) k (rw (from_row, length_in table n) h)

-- ---- the ends of the last spans

-- after j lines: the end of each code's last span among them
pub record Ending (P : List Place) (B : List ℕ) (j : ℕ) (ends : List ℕ) : Type 0 where
  pub few : j ≤ line_count B
  pub long : length ends ≡ CODES + 1
  pub ends_at : (c : ℕ) → c < CODES + 1 → get_or ends c 0 ≡ end_at P B j c

pub ending_none : (P : List Place) (B : List ℕ) → Ending P B 0 (replicate (CODES + 1) 0)
ending_none P B = record { few = omega arith; long = refl; ends_at = λ c h. get_or-replicate (CODES + 1) c 0 0 h ∙ sym (end_none P B c) }

module _ (P : List Place) (B : List ℕ) (j : ℕ) (ends : List ℕ) (w : Ending P B j ends) where
  pub ending_at : (c : ℕ) → c ≡ line_code j → get_or ends c 0 ≡ end_at P B j (line_code j)
  ending_at c e = rw e (w.ends_at (line_code j) (omega arith))

  module _ (c x : ℕ) (e : c ≡ line_code j) (is : x ≡ end_at P B (j + 1) (line_code j)) where
    moved : (k : ℕ) → k < CODES + 1 → get_or (set ends c x) k 0 ≡ end_at P B (j + 1) k
    moved k l = by-test (eqb k c)
        (λ t.
        let q : k ≡ c = eqb-true k c t in
        let u : c < length ends = omega (arith, w.long) in
        ap (λ (i : ℕ). get_or (set ends c x) i 0) q ∙ get_or-set_same ends c x 0 u ∙ is ∙ ap (end_at P B (j + 1)) (sym (q ∙ e)))
        (λ f.
        let q = eqb-false k c f in
        get_or-set_other ends c k x 0 q ∙ w.ends_at k l ∙ sym (end_other P B j k (λ y. q (sym y ∙ sym e))))

    pub ending_next : j < line_count B → Ending P B (j + 1) (set ends c x)
    ending_next h = record { few = omega arith; long = length-set ends c x ∙ w.long; ends_at = moved }

  pub ending_end : line_count B ≤ j → ends ≡ span_ends P B
  unfolding span_ends
  ending_end h =
      let e : j ≡ line_count B = omega (arith, w.few) in
      let n : length ends ≡ length (select (λ c. true) (λ c. last_end (spans_of P B c)) (CODES + 1)) =
      w.long ∙ sym (select_all_length (λ c. last_end (spans_of P B c)) (CODES + 1)) in
      ext_get_or 0 ends (select (λ c. true) (λ c. last_end (spans_of P B c)) (CODES + 1)) n
      (λ c l.
      let m : c < CODES + 1 = omega (arith, w.long) in
      w.ends_at c m ∙ ap (λ (i : ℕ). end_at P B i c) e ∙ end_spans P B c ∙ sym (select_all_at (λ c. last_end (spans_of P B c)) c (CODES + 1) 0 m))

-- read back by code
pub ends_code : (P : List Place) (B ends : List ℕ) (c : ℕ) → ends ≡ span_ends P B → c ≤ CODES → (length ends ≡ CODES + 1) × (get_or ends c 0 ≡ last_end (spans_of P B c))
unfolding span_ends
ends_code P B ends c e h = (
  ap length e ∙ select_all_length (λ c. last_end (spans_of P B c)) (CODES + 1),
  ap (λ (l : List ℕ). get_or l c 0) e ∙ select_all_at (λ c. last_end (spans_of P B c)) c (CODES + 1) 0 (omega arith),
)
