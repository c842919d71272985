-- The laws of spans. Those of one section ascend and do not overlap, because 8 passed, so an offset lies under one span at most and under none from the end of the last
-- one on. Assumes nothing.
use Prim.Native.Nat.{ℕ, zero, suc, ◌+◌, ◌-◌, ◌*◌, ◌/◌, ◌%◌, ◌≤◌, ◌<◌}
use mathlib.Core.Path.{◌≡◌, refl, sym, ap, ◌∙◌}
use mathlib.Core.Logic.{◌⊎◌, inl, inr, ⊎_elim}
use mathlib.Core.Bool.{Bool, true, false, ◌&&◌}
use mathlib.Core.List.{List, [], ◌∷◌, ◌++◌}
use native.Mathlib.Numerals.{add-one}
use native.Mathlib.Omega.{arith}
use lib.ListN.{length, get_or, length-append}
use lib.Seq.{get_or_at}
use lib.Dec.{eqb, ltb, leb}
use borrow.Author.Tests.{lt-ltb, ltb-true, eq-eqb, eqb-true, le-leb, leb-true}
use Rattle.base_lists.specs.Ranges.{first, count, select}
use Rattle.base_lists.proofs.Ranges.{by-test, both, by-lt, and_parts, and_true, some_yes, some_no, some_hit, count_lt, count_hit, count_none, select_zero, select_yes, select_no, select_length, select_at}
use Rattle.base_scope.specs.Codes.{LINES, line_code}
use Rattle.base_scope.specs.Limits.{BLOCK_LIMIT}
use Rattle.blocks_file.proofs.Blocks.{count_high}
use Rattle.blocks_places.specs.Lines.{line_count, span_size}
use Rattle.blocks_places.specs.Places.{Place, taken, place, end_at}
use Rattle.blocks_places.specs.Faults.{Fitting}
use Rattle.blocks_places.proofs.Places.{end_none, end_same, end_moved, ends_ascend}
use Rattle.blocks_spans.specs.declared.Span.{Span}
use Rattle.blocks_spans.specs.Spans.{no_span, span_end, is_span, span_of, spans_among, spans_of, span_at, covers, is_covered, last_end, is_word_of, replaced_word, Ascends, EndsBy}

-- ---- lines that have a span

module _ (P : List Place) (B : List ℕ) where
  pub span_taken : (c j : ℕ) → is_span P B c j ≡ true → taken P j ≡ true
  unfolding is_span
  span_taken c j t = (and_parts (taken P j) _ t).0

  pub span_code : (c j : ℕ) → is_span P B c j ≡ true → line_code j ≡ c
  unfolding is_span
  span_code c j t = eqb-true _ _ (and_parts (taken P j) _ t).1

  pub span_is : (c j : ℕ) → taken P j ≡ true → line_code j ≡ c → is_span P B c j ≡ true
  unfolding is_span
  span_is c j t e = and_true _ _ t (eq-eqb (line_code j) c e)

  pub span_not : (c j : ℕ) → (line_code j ≡ c → ⊥) → is_span P B c j ≡ false
  span_not c j d = by-test (is_span P B c j) (λ t. absurd (d (span_code c j t))) (λ f. f)

  pub span_off : (c j : ℕ) → taken P j ≡ false → is_span P B c j ≡ false
  unfolding is_span
  span_off c j f = rw f

  -- a block has one line of each code, so a section has no more spans than there are blocks
  few : (c j : ℕ) → c ≤ LINES → LINES * count (is_span P B c) j ≤ j + LINES - c
  unfolding count
  few c zero h = omega arith
  few c (suc j) h = by-test (is_span P B c j)
      (λ t.
      let e : line_code j ≡ c = span_code c j t in
      rw t (omega (arith, few c j h)))
      (λ f. rw f (omega (arith, few c j h)))

  pub rows_before : (c j : ℕ) → is_span P B c j ≡ true → j < line_count B → count (is_span P B c) j < BLOCK_LIMIT
  rows_before c j t h =
      let e : line_code j ≡ c = span_code c j t in
      omega (arith, few c j (omega arith), count_high B)

  pub rows_few : (c : ℕ) → count (is_span P B c) (line_count B) ≤ BLOCK_LIMIT
  rows_few c = by-lt 0 c
      (λ l. by-lt LINES c
      (λ u. omega (arith, count_none (is_span P B c) (line_count B) (λ j h. span_not c j (λ e. omega arith))))
      (λ u. omega (arith, few c (line_count B) u, count_high B)))
      (λ l. omega (arith, count_none (is_span P B c) (line_count B) (λ j h. span_not c j (λ e. omega arith))))

  -- ---- the spans of a section, line by line

  pub length_among : (c n : ℕ) → length (spans_among P B c n) ≡ count (is_span P B c) n
  unfolding spans_among
  length_among c n = select_length (is_span P B c) (span_of P B) n

  pub length_spans : (c : ℕ) → length (spans_of P B c) ≡ count (is_span P B c) (line_count B)
  unfolding spans_of
  length_spans c = length_among c (line_count B)

  pub among_none : (c : ℕ) → spans_among P B c 0 ≡ []
  unfolding spans_among
  among_none c = select_zero (is_span P B c) (span_of P B)

  pub among_yes : (c n : ℕ) → is_span P B c n ≡ true → spans_among P B c (n + 1) ≡ spans_among P B c n ++ (span_of P B n ∷ [])
  unfolding spans_among
  among_yes c n t = select_yes (is_span P B c) (span_of P B) n t

  pub among_no : (c n : ℕ) → is_span P B c n ≡ false → spans_among P B c (n + 1) ≡ spans_among P B c n
  unfolding spans_among
  among_no c n f = select_no (is_span P B c) (span_of P B) n f

  -- the span of a line, and the line of a span
  pub line_span : (c j : ℕ) → j < line_count B → is_span P B c j ≡ true → span_at (spans_of P B c) (count (is_span P B c) j) ≡ span_of P B j
  unfolding span_at spans_of spans_among
  line_span c j h t = select_at (is_span P B c) (span_of P B) j (line_count B) no_span h t

  pub line_before : (c j : ℕ) → j < line_count B → is_span P B c j ≡ true → count (is_span P B c) j < length (spans_of P B c)
  line_before c j h t = rw (length_spans c) (count_lt (is_span P B c) j (line_count B) h t)

  pub span_line : (c r : ℕ) → r < length (spans_of P B c) → (j : ℕ) × (j < line_count B) × (is_span P B c j ≡ true) × (count (is_span P B c) j ≡ r)
  span_line c r h = count_hit (is_span P B c) (line_count B) r (rw (length_spans c) at h)

  -- the last span's end is the end of the section's last line
  spans_last : (L : List Span) (s : Span) → last_end (L ++ (s ∷ [])) ≡ span_end s
  unfolding last_end span_at
  spans_last L s =
      let n : length (L ++ (s ∷ [])) - 1 ≡ length L = omega (arith, length-append L (s ∷ [])) in
      ap span_end (ap (λ (i : ℕ). get_or (L ++ (s ∷ [])) i no_span) n ∙ get_or_at L s [] no_span (length L) refl)

  span_read : (c j : ℕ) → is_span P B c j ≡ false → (taken P j && eqb (line_code j) c) ≡ false
  unfolding is_span
  span_read c j f = f

  pub end_among : (c n : ℕ) → end_at P B n c ≡ last_end (spans_among P B c n)
  unfolding last_end span_at span_end span_of
  end_among c zero = end_none P B c ∙ sym (rw (among_none c))
  end_among c (suc n) = rw (← add-one n) (by-test (is_span P B c n)
      (λ t.
      ap (end_at P B (n + 1)) (sym (span_code c n t)) ∙ end_moved P B n (span_taken c n t)
      ∙ sym (rw (among_yes c n t) (spans_last (spans_among P B c n) (span_of P B n))))
      (λ f. end_same P B n c (span_read c n f) ∙ end_among c n ∙ rw (among_no c n f)))

  pub end_spans : (c : ℕ) → end_at P B (line_count B) c ≡ last_end (spans_of P B c)
  unfolding spans_of
  end_spans c = end_among c (line_count B)

  -- fewer spans stand before the line of the lower one
  before : (c i j : ℕ) → is_span P B c j ≡ true → count (is_span P B c) i < count (is_span P B c) j → i < j
  before c i j s h = by-lt i j (λ l. l) (λ l. by-lt j i
      (λ u. absurd (omega (arith, count_lt (is_span P B c) j i u s)))
      (λ u. let e : i ≡ j = omega arith in absurd (omega (arith, ap (count (is_span P B c)) e))))

  module _ (f : Fitting P B) (c : ℕ) where
    size_of : (j : ℕ) → is_span P B c j ≡ true → 0 < (span_of P B j).size
    unfolding span_of
    size_of j t = f.sized j (span_taken c j t)

    apart_of : (i j : ℕ) → i < j → is_span P B c i ≡ true → is_span P B c j ≡ true → span_end (span_of P B i) ≤ (span_of P B j).place
    unfolding span_end span_of
    apart_of i j l t s = ends_ascend P B f i j l (span_taken c i t) (span_taken c j s) (span_code c i t ∙ sym (span_code c j s))

    size_at : (r j : ℕ) → j < line_count B → is_span P B c j ≡ true → count (is_span P B c) j ≡ r → 0 < (span_at (spans_of P B c) r).size
    size_at r j h t e = rw (← e, line_span c j h t) (size_of j t)

    apart_at : (r s i j : ℕ) → r < s → i < line_count B → j < line_count B → is_span P B c i ≡ true → is_span P B c j ≡ true
        → count (is_span P B c) i ≡ r → count (is_span P B c) j ≡ s → span_end (span_at (spans_of P B c) r) ≤ (span_at (spans_of P B c) s).place
    apart_at r s i j l g h t u e d =
        rw (← e, ← d, line_span c i g t, line_span c j h u) (apart_of i j (before c i j u (omega arith)) t u)

  -- where 8 has passed they ascend
  pub spans_ascend : Fitting P B → (c : ℕ) → Ascends (spans_of P B c)
  spans_ascend f c = record {
    sized = λ r h.
        let a = span_line c r h in
        size_at f c r a.0 a.1 a.2 a.3;
    apart = λ i j l h.
        let a = span_line c i (omega arith) in
        let b = span_line c j h in
        apart_at f c i j a.0 b.0 l a.1 b.1 a.2 b.2 a.3 b.3;
  }

-- ---- an offset and the spans

module _ (L : List Span) where
  pub covers_low : (k r : ℕ) → covers L k r ≡ true → (span_at L r).place ≤ k
  unfolding covers
  covers_low k r t = leb-true _ _ (and_parts (leb (span_at L r).place k) _ t).0

  pub covers_high : (k r : ℕ) → covers L k r ≡ true → k < span_end (span_at L r)
  unfolding covers
  covers_high k r t = ltb-true _ _ (and_parts (leb (span_at L r).place k) _ t).1

  pub covers_of : (k r : ℕ) → (span_at L r).place ≤ k → k < span_end (span_at L r) → covers L k r ≡ true
  unfolding covers
  covers_of k r l u = and_true _ _ (le-leb _ _ l) (lt-ltb _ _ u)

  pub covers_not : (k r : ℕ) → (span_end (span_at L r) ≤ k) ⊎ (k < (span_at L r).place) → covers L k r ≡ false
  covers_not k r out = by-test (covers L k r)
      (λ y.
      let l = covers_low k r y in
      let u = covers_high k r y in
      absurd (⊎_elim (λ (e : span_end (span_at L r) ≤ k). omega arith) (λ (e : k < (span_at L r).place). omega arith) out))
      (λ f. f)

  pub covered_by_lem : (k r : ℕ) → r < length L → covers L k r ≡ true → is_covered L k ≡ true
  unfolding is_covered
  covered_by_lem k r h t = some_yes (covers L k) 0 (length L) r (omega arith) h t

  pub covered_none : (k : ℕ) → ((r : ℕ) → r < length L → covers L k r ≡ false) → is_covered L k ≡ false
  unfolding is_covered
  covered_none k none = some_no (covers L k) 0 (length L) (omega arith) (λ r l h. none r h)

  pub covered_hit : (k : ℕ) → is_covered L k ≡ true → (r : ℕ) × (r < length L) × (covers L k r ≡ true)
  unfolding is_covered
  covered_hit k t =
      let h = some_hit (covers L k) 0 (length L) (omega arith) t in
      (first (covers L k) 0 (length L), h.0, h.1)

module _ (L : List Span) (a : Ascends L) where
  pub span_some : (r : ℕ) → r < length L → (span_at L r).place < span_end (span_at L r)
  unfolding span_end
  span_some r h = omega (arith, a.sized r h)

  pub ends_up : (i j : ℕ) → i ≤ j → j < length L → span_end (span_at L i) ≤ span_end (span_at L j)
  ends_up i j l h = by-lt i j
      (λ u. omega (arith, a.apart i j u h, span_some j h))
      (λ u. let e : i ≡ j = omega arith in rw e (omega arith))

  -- none ends behind the last one
  pub span_last : (r : ℕ) → r < length L → span_end (span_at L r) ≤ last_end L
  unfolding last_end
  span_last r h = ends_up r (length L - 1) (omega arith) (omega arith)

  -- an offset lies under one span at most
  apart : (k i j : ℕ) → i < j → j < length L → covers L k i ≡ true → covers L k j ≡ true → ⊥
  apart k i j l h t s = omega (arith, a.apart i j l h, covers_high L k i t, covers_low L k j s)

  pub covers_unique : (k i j : ℕ) → i < length L → j < length L → covers L k i ≡ true → covers L k j ≡ true → i ≡ j
  covers_unique k i j g h t s = by-lt i j
      (λ l. absurd (apart k i j l h t s))
      (λ m. by-lt j i (λ l. absurd (apart k j i l g s t)) (λ n. omega arith))

  -- no offset from the end of the last span on lies under one
  pub covered_past : (k : ℕ) → last_end L ≤ k → is_covered L k ≡ false
  covered_past k h = covered_none L k (λ r l. covers_not L k r (inl (omega (arith, span_last r l))))

-- ---- replaced words

module _ (L : List Span) (k : ℕ) where
  word_covers : (r : ℕ) → is_word_of L k r ≡ true → covers L k r ≡ true
  unfolding is_word_of
  word_covers r t = (and_parts (covers L k r) _ t).0

  word_is : (r : ℕ) → covers L k r ≡ true → is_word_of L k r ≡ eqb ((k - (span_at L r).place) % 4) 0
  unfolding is_word_of
  word_is r t = rw t

  some_word : (r : ℕ) → r < length L → is_word_of L k r ≡ true → replaced_word L k ≡ true
  unfolding replaced_word
  some_word r h t = some_yes (is_word_of L k) 0 (length L) r (omega arith) h t

  no_word : ((r : ℕ) → r < length L → is_word_of L k r ≡ false) → replaced_word L k ≡ false
  unfolding replaced_word
  no_word none = some_no (is_word_of L k) 0 (length L) (omega arith) (λ r l h. none r h)

  pub replaced_none : is_covered L k ≡ false → replaced_word L k ≡ false
  replaced_none f = no_word (λ r h. by-test (is_word_of L k r) (λ t. both (covered_by_lem L k r h (word_covers r t)) f) (λ e. e))

  pub replaced_over : Ascends L → (r : ℕ) → r < length L → covers L k r ≡ true → replaced_word L k ≡ eqb ((k - (span_at L r).place) % 4) 0
  replaced_over a r h t = by-test (is_word_of L k r)
      (λ y. some_word r h y ∙ sym y ∙ word_is r t)
      (λ n.
      no_word (λ i g. by-test (is_word_of L k i)
      (λ y. let e : i ≡ r = covers_unique L a k i r g h (word_covers i y) t in both (rw e at y) n)
      (λ e. e))
      ∙ sym n ∙ word_is r t)

  -- a replaced word stands a number of whole words behind the place of a span, inside it; and every such offset is one
  pub replaced_hit : replaced_word L k ≡ true → (r : ℕ) × (m : ℕ) × (r < length L) × (k ≡ (span_at L r).place + 4 * m) × (4 * m < (span_at L r).size)
  unfolding replaced_word span_end is_word_of
  replaced_hit t =
      let r = first (is_word_of L k) 0 (length L) in
      let w = some_hit (is_word_of L k) 0 (length L) (omega arith) t in
      let c : covers L k r ≡ true = word_covers r w.1 in
      let l : (span_at L r).place ≤ k = covers_low L k r c in
      let u : k < (span_at L r).place + (span_at L r).size = covers_high L k r c in
      let e : (k - (span_at L r).place) % 4 ≡ 0 = eqb-true _ _ (and_parts (covers L k r) _ w.1).1 in
      (r, (k - (span_at L r).place) / 4, w.0, omega arith, omega arith)

pub replaced_of : (L : List Span) (r m : ℕ) → r < length L → 4 * m < (span_at L r).size → replaced_word L ((span_at L r).place + 4 * m) ≡ true
unfolding span_end
replaced_of L r m h u =
    let k = (span_at L r).place + 4 * m in
    let c : covers L k r ≡ true = covers_of L k r (omega arith) (omega arith) in
    let e : (k - (span_at L r).place) % 4 ≡ 0 = omega arith in
    some_word L k r h (word_is L k r c ∙ eq-eqb _ _ e)

-- ---- the end of the last span, of any list

pub last_zero : (L : List Span) → length L ≤ 0 → last_end L ≡ 0
unfolding last_end span_at span_end
last_zero [] h = refl
last_zero (s ∷ L) h = absurd (omega arith)

-- it ends where every span does
pub last_by : (L : List Span) (m : ℕ) → EndsBy L m → last_end L ≤ m
unfolding last_end
last_by L m ends = by-lt 0 (length L) (λ h. ends (length L - 1) (omega arith)) (λ h. omega (arith, last_zero L h))
