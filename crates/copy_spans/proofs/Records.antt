-- The laws of a list of records: what the two walks have at each record, and what the list of a block file comes to. Its spans of a section are those of the core, so its
-- places are clear exactly where 8 finds nothing at fault. Assumes nothing.
use Prim.Native.Nat.{ℕ, zero, suc, ◌+◌, ◌-◌, ◌*◌, ◌≤◌, ◌<◌}
use mathlib.Core.Path.{◌≡◌, refl, sym, ap, ◌∙◌}
use mathlib.Core.Logic.{◌⊎◌, inl, inr}
use mathlib.Core.Bool.{Bool, true, false, ◌&&◌}
use mathlib.Core.List.{List, [], ◌∷◌, ◌++◌, append-nil}
use native.Mathlib.Numerals.{add-one}
use native.Mathlib.Omega.{arith}
use lib.ListN.{length, get_or, take, drop, set, length-append, get_or-append, length-set}
use lib.Seq.{ext_get_or, get_or_at, get_or-append-add, get_or-take, get_or-drop, length-take-le, take-suc-set, drop-drop}
use lib.Dec.{eqb}
use borrow.Author.Tests.{lt-ltb, le-ltb, eq-eqb, ne_eqb, eqb-true, eqb-false}
use Rattle.base_lists.specs.Ranges.{first, count, pick_list}
use Rattle.base_lists.specs.Windows.{spliced}
use Rattle.base_lists.proofs.Ranges.{by-test, both, by-lt, first_here, first_next, first_end, first_high, first_none, none_first, count_zero, count_yes, count_no, count_lt, count_le, count_hit, select_zero, select_yes, select_no, select_length, select_at}
use Rattle.base_lists.proofs.Windows.{length_part, length_spliced, take_spliced, drop_spliced, within_spliced, within_read, spliced_in, spliced_before, spliced_after}
use Rattle.base_fields.specs.declared.ByteOrder.{ByteOrder}
use Rattle.base_scope.specs.Codes.{LINES, line_code}
use Rattle.base_scope.specs.Limits.{BLOCK_LIMIT}
use Rattle.blocks_file.proofs.Blocks.{count_high}
use Rattle.blocks_places.specs.Lines.{line_count, span_size}
use Rattle.blocks_places.specs.Places.{Place, taken, place, end_at, is_placed, places_of}
use Rattle.blocks_places.specs.Faults.{sizeless, early, fault8, Fitting}
use Rattle.blocks_places.specs.Table.{low_place}
use Rattle.blocks_places.proofs.Places.{placed_labelled, placed_reached, taken_placed, place_value}
use Rattle.blocks_spans.specs.declared.Span.{Span}
use Rattle.blocks_spans.specs.Spans.{no_span, span_end, span_of, spans_among, spans_of, span_at, covers, is_covered, last_end, EndsBy}
use Rattle.blocks_spans.specs.Copied.{copied_byte, copied}
use Rattle.blocks_spans.proofs.Spans.{span_is, span_not, span_off, among_none, among_yes, among_no, end_among, last_zero, covers_of, covers_not, covered_by_lem, covered_none, covered_hit}
use Rattle.blocks_spans.proofs.Copied.{length_copied, copied_at, copied_compiled, copied_assembled}
use Rattle.copy_spans.specs.declared.SpanRecord.{SpanRecord}
use Rattle.copy_spans.specs.Records.{no_record, span_in, is_low, end_behind, is_outside, record_at, in_section, section_among, low_at, first_low, outside_at, first_outside, BlockCopied, BlocksCopied, record_of, records_among, records, Filled}

-- ---- the spans of a section among the first records

module _ (L : List SpanRecord) (c : ℕ) where
  pub section_none : section_among L c 0 ≡ []
  unfolding section_among
  section_none = select_zero (in_section L c) (λ i. span_in (record_at L i))

  pub section_yes : (n : ℕ) → in_section L c n ≡ true → section_among L c (n + 1) ≡ section_among L c n ++ (span_in (record_at L n) ∷ [])
  unfolding section_among
  section_yes n t = select_yes (in_section L c) (λ i. span_in (record_at L i)) n t

  pub section_no : (n : ℕ) → in_section L c n ≡ false → section_among L c (n + 1) ≡ section_among L c n
  unfolding section_among
  section_no n f = select_no (in_section L c) (λ i. span_in (record_at L i)) n f

  -- the span of a record of the section
  pub section_at_lem : (i n : ℕ) → i < n → in_section L c i ≡ true → span_at (section_among L c n) (count (in_section L c) i) ≡ span_in (record_at L i)
  unfolding span_at section_among
  section_at_lem i n h t = select_at (in_section L c) (λ j. span_in (record_at L j)) i n no_span h t

  pub section_before : (i n : ℕ) → i < n → in_section L c i ≡ true → count (in_section L c) i < length (section_among L c n)
  unfolding section_among
  section_before i n h t = rw (select_length (in_section L c) (λ j. span_in (record_at L j)) n) (count_lt (in_section L c) i n h t)

-- ---- the walk that checks

last_of : (L : List Span) (s : Span) → last_end (L ++ (s ∷ [])) ≡ span_end s
unfolding last_end span_at
last_of L s =
    let n : length (L ++ (s ∷ [])) - 1 ≡ length L = omega (arith, length-append L (s ∷ [])) in
    ap span_end (ap (λ (i : ℕ). get_or (L ++ (s ∷ [])) i no_span) n ∙ get_or_at L s [] no_span (length L) refl)

module _ (L : List SpanRecord) (c : ℕ) where
  pub end_none : last_end (section_among L c 0) ≡ 0
  end_none = last_zero (section_among L c 0) (rw (section_none L c) (omega arith))

  pub end_next : (i : ℕ) → end_behind c (last_end (section_among L c i)) (record_at L i) ≡ last_end (section_among L c (i + 1))
  unfolding end_behind in_section span_end span_in
  end_next i = by-test (eqb (record_at L i).code c)
      (λ t. rw (t, section_yes L c i t) (sym (last_of (section_among L c i) (span_in (record_at L i)))))
      (λ f. rw (f, section_no L c i f))

-- before record i none is at fault, and `end` is where the section's last span ends
pub record Checking (L : List SpanRecord) (c end i : ℕ) : Type 0 where
  pub few : i ≤ length L
  pub ends : end ≡ last_end (section_among L c i)
  pub clear : first_low L c ≡ first (low_at L c) i (length L)

pub checking_none : (L : List SpanRecord) (c : ℕ) → Checking L c 0 0
unfolding first_low
checking_none L c = record { few = omega arith; ends = sym (end_none L c); clear = refl }

module _ (L : List SpanRecord) (c end i : ℕ) (k : Checking L c end i) where
  low_read : is_low c end (record_at L i) ≡ low_at L c i
  unfolding low_at
  low_read = rw k.ends

  pub checking_low : (b : Bool) → b ≡ is_low c end (record_at L i) → b ≡ true → i < length L → i ≡ first_low L c
  checking_low b e t h = sym (k.clear ∙ first_here (low_at L c) i (length L) h (sym low_read ∙ sym e ∙ t))

  pub checking_next : (b : Bool) (next : ℕ) → b ≡ is_low c end (record_at L i) → b ≡ false → next ≡ end_behind c end (record_at L i) → i < length L → Checking L c next (i + 1)
  checking_next b next e f g h = record {
    few = omega arith;
    ends = g ∙ ap (λ (z : ℕ). end_behind c z (record_at L i)) k.ends ∙ end_next L c i;
    clear = k.clear ∙ first_next (low_at L c) i (length L) h (sym low_read ∙ sym e ∙ f);
  }

  pub checking_end : length L ≤ i → i ≡ first_low L c
  checking_end h = sym (k.clear ∙ first_end (low_at L c) i (length L) h)

-- ---- block copying by spans, one behind the other

module _ (L M : List Span) where
  at_left : (r : ℕ) → r < length L → span_at (L ++ M) r ≡ span_at L r
  unfolding span_at
  at_left r h = get_or-append L M no_span r h

  at_right : (r : ℕ) → span_at (L ++ M) (length L + r) ≡ span_at M r
  unfolding span_at
  at_right r = get_or-append-add L M r no_span

  over_left : (k r : ℕ) → r < length L → covers (L ++ M) k r ≡ covers L k r
  unfolding covers
  over_left k r h = rw (at_left r h)

  over_right : (k r : ℕ) → covers (L ++ M) k (length L + r) ≡ covers M k r
  unfolding covers
  over_right k r = rw (at_right r)

  covered_left : (k : ℕ) → is_covered L k ≡ true → is_covered (L ++ M) k ≡ true
  covered_left k t =
      let a = covered_hit L k t in
      covered_by_lem (L ++ M) k a.0 (rw (length-append L M) (omega (arith, a.1))) (over_left k a.0 a.1 ∙ a.2)

  covered_right : (k : ℕ) → is_covered M k ≡ true → is_covered (L ++ M) k ≡ true
  covered_right k t =
      let a = covered_hit M k t in
      covered_by_lem (L ++ M) k (length L + a.0) (rw (length-append L M) (omega (arith, a.1))) (over_right k a.0 ∙ a.2)

  covered_neither : (k : ℕ) → is_covered L k ≡ false → is_covered M k ≡ false → is_covered (L ++ M) k ≡ false
  covered_neither k f g = covered_none (L ++ M) k (λ r h. by-lt r (length L)
      (λ l. over_left k r l ∙ by-test (covers L k r) (λ t. both (covered_by_lem L k r l t) f) (λ e. e))
      (λ l.
      let e : r ≡ length L + (r - length L) = omega arith in
      let u : r - length L < length M = omega (arith, h, length-append L M) in
      ap (covers (L ++ M) k) e ∙ over_right k (r - length L)
      ∙ by-test (covers M k (r - length L)) (λ t. both (covered_by_lem M k (r - length L) u t) g) (λ q. q)))

  module _ (S T : List ℕ) where
    byte_then : (k : ℕ) → k < length S → copied_byte M (copied L S T) T k ≡ get_or (copied (L ++ M) S T) k 0
    unfolding copied_byte
    byte_then k h = by-test (is_covered M k)
        (λ t. rw t (sym (copied_assembled (L ++ M) S T k h (covered_right k t))))
        (λ f. rw f (by-test (is_covered L k)
        (λ t. copied_assembled L S T k h t ∙ sym (copied_assembled (L ++ M) S T k h (covered_left k t)))
        (λ g. copied_compiled L S T k g ∙ sym (copied_compiled (L ++ M) S T k (covered_neither k g f)))))

    -- copying by M behind L is copying by both
    pub copied_then : copied M (copied L S T) T ≡ copied (L ++ M) S T
    copied_then =
        let e : length (copied M (copied L S T) T) ≡ length S = length_copied M (copied L S T) T ∙ length_copied L S T in
        ext_get_or 0 (copied M (copied L S T) T) (copied (L ++ M) S T) (e ∙ sym (length_copied (L ++ M) S T)) (λ k h.
        let l : k < length S = rw e at h in
        copied_at M (copied L S T) T k (rw (length_copied L S T) l) ∙ byte_then k l)

-- by no span nothing is copied
pub copied_nil : (S T : List ℕ) → copied [] S T ≡ S
copied_nil S T = ext_get_or 0 (copied [] S T) S (length_copied [] S T) (λ k h. copied_compiled [] S T k (covered_none [] k (λ r l. absurd (omega arith))))

-- by one span that lies inside both sections its bytes are
module _ (s : Span) (S T : List ℕ) (in_c : span_end s ≤ length S) (in_a : span_end s ≤ length T) where
  abbrev bytes : List ℕ
  bytes = take s.size (drop s.place T)

  fits : s.place + s.size ≤ length T
  unfolding span_end
  fits = in_a

  room : s.place + length bytes ≤ length S
  unfolding span_end
  room = rw (length_part T s.place s.size fits) in_c

  ends : s.place + length bytes ≡ span_end s
  unfolding span_end
  ends = rw (length_part T s.place s.size fits)

  outside : (k : ℕ) → (span_end s ≤ k) ⊎ (k < s.place) → get_or (copied (s ∷ []) S T) k 0 ≡ get_or S k 0
  unfolding span_at
  outside k out = copied_compiled (s ∷ []) S T k (covered_none (s ∷ []) k (λ r h. let e : r ≡ 0 = omega arith in rw e (covers_not (s ∷ []) k 0 out)))

  inside : (k : ℕ) → s.place ≤ k → k < span_end s → get_or (copied (s ∷ []) S T) k 0 ≡ get_or T k 0
  unfolding span_at
  inside k l u = copied_assembled (s ∷ []) S T k (omega arith) (covered_by_lem (s ∷ []) k 0 (omega arith) (covers_of (s ∷ []) k 0 l u))

  read : (k : ℕ) → s.place ≤ k → k < span_end s → get_or bytes (k - s.place) 0 ≡ get_or T k 0
  unfolding span_end
  read k l u =
      let e : s.place + (k - s.place) ≡ k = omega arith in
      get_or-take s.size (drop s.place T) (k - s.place) 0 (omega arith) ∙ get_or-drop s.place T (k - s.place) 0 ∙ ap (λ (i : ℕ). get_or T i 0) e

  pub copied_one : copied (s ∷ []) S T ≡ spliced S s.place bytes
  copied_one = ext_get_or 0 (copied (s ∷ []) S T) (spliced S s.place bytes) (length_copied (s ∷ []) S T ∙ sym (length_spliced S s.place bytes room)) (λ k h. by-lt k s.place
      (λ l. outside k (inr l) ∙ sym (spliced_before S s.place bytes room k l))
      (λ l. by-lt k (span_end s)
      (λ u. inside k l u ∙ sym (spliced_in S s.place bytes room k l (rw ends u) ∙ read k l u))
      (λ u. outside k (inl u) ∙ sym (spliced_after S s.place bytes room k (rw ends u)))))

-- the first bytes of a section are copied as they are in the whole
module _ (L : List Span) (S T : List ℕ) (n : ℕ) (few : n ≤ length S) where
  front_byte : (k : ℕ) → k < n → copied_byte L (take n S) T k ≡ copied_byte L S T k
  unfolding copied_byte
  front_byte k h = rw (get_or-take n S k 0 h)

  pub copied_front : copied L (take n S) T ≡ take n (copied L S T)
  copied_front =
      let e : length (copied L (take n S) T) ≡ n = length_copied L (take n S) T ∙ length-take-le n S few in
      let f : length (take n (copied L S T)) ≡ n = length-take-le n (copied L S T) (rw (length_copied L S T) few) in
      ext_get_or 0 (copied L (take n S) T) (take n (copied L S T)) (e ∙ sym f) (λ k h.
      let l : k < n = rw e at h in
      copied_at L (take n S) T k (rw (length-take-le n S few) l) ∙ front_byte k l ∙ sym (copied_at L S T k (omega arith)) ∙ sym (get_or-take n (copied L S T) k 0 l))

-- ---- the walk that copies

-- one record's turn
module _ (x : SpanRecord) (c : ℕ) (S T : List ℕ) where
  pub block_other : (x.code ≡ c → ⊥) → BlockCopied x c T false S S
  unfolding is_outside
  block_other d = record {
    answer = rw (ne_eqb x.code c d);
    stays = λ e. refl;
    bytes = λ e. rw (ne_eqb x.code c d) (sym (copied_nil S T));
  }

  pub block_short : x.code ≡ c → length S < x.place + x.size → BlockCopied x c T true S S
  unfolding is_outside
  block_short e h = record {
    answer = rw (eq-eqb x.code c e, lt-ltb _ _ h);
    stays = λ t. refl;
    bytes = λ f. both refl f;
  }

  pub block_lacking : x.code ≡ c → x.place + x.size ≤ length S → length T < x.place + x.size → BlockCopied x c T true S S
  unfolding is_outside
  block_lacking e l h = record {
    answer = rw (eq-eqb x.code c e, le-ltb _ _ l, lt-ltb _ _ h);
    stays = λ t. refl;
    bytes = λ f. both refl f;
  }

  pub block_copied : (after : List ℕ) → x.code ≡ c → x.place + x.size ≤ length S → x.place + x.size ≤ length T
      → after ≡ spliced S x.place (take x.size (drop x.place T)) → BlockCopied x c T false S after
  unfolding is_outside span_end span_in
  block_copied after e l h is = record {
    answer = rw (eq-eqb x.code c e, le-ltb _ _ l, le-ltb _ _ h);
    stays = λ t. both t refl;
    bytes = λ f. rw (eq-eqb x.code c e) (is ∙ sym (copied_one (span_in x) S T l h));
  }

-- before record i none lies outside, and the spans of the section among those before it are copied
pub record Copying (L : List SpanRecord) (c : ℕ) (T before : List ℕ) (i : ℕ) (after : List ℕ) : Type 0 where
  pub few : i ≤ length L
  pub long : length after ≡ length before
  pub clear : first_outside L c (length before) (length T) ≡ first (outside_at L c (length before) (length T)) i (length L)
  pub bytes : after ≡ copied (section_among L c i) before T

pub copying_none : (L : List SpanRecord) (c : ℕ) (T before : List ℕ) → Copying L c T before 0 before
unfolding first_outside
copying_none L c T before = record {
  few = omega arith;
  long = refl;
  clear = refl;
  bytes = sym (ap (λ (M : List Span). copied M before T) (section_none L c) ∙ copied_nil before T);
}

module _ (L : List SpanRecord) (c : ℕ) (T before : List ℕ) (i : ℕ) (after : List ℕ) (k : Copying L c T before i after) where
  outside_read : (b : Bool) (next : List ℕ) → BlockCopied (record_at L i) c T b after next → b ≡ outside_at L c (length before) (length T) i
  unfolding outside_at
  outside_read b next o = o.answer ∙ ap (λ (n : ℕ). is_outside c n (length T) (record_at L i)) k.long

  section_next : section_among L c i ++ pick_list (eqb (record_at L i).code c) (span_in (record_at L i) ∷ []) [] ≡ section_among L c (i + 1)
  unfolding in_section
  section_next = by-test (eqb (record_at L i).code c)
      (λ t. rw t (sym (section_yes L c i t)))
      (λ f. rw f (append-nil (section_among L c i) ∙ sym (section_no L c i f)))

  pub copying_stop : (b : Bool) (next : List ℕ) → BlockCopied (record_at L i) c T b after next → b ≡ true → i < length L → BlocksCopied L c T i before next
  copying_stop b next o t h = record {
    answer = sym (k.clear ∙ first_here (outside_at L c (length before) (length T)) i (length L) h (sym (outside_read b next o) ∙ t));
    bytes = o.stays t ∙ k.bytes;
  }

  pub copying_next : (b : Bool) (next : List ℕ) → BlockCopied (record_at L i) c T b after next → b ≡ false → length next ≡ length after → i < length L → Copying L c T before (i + 1) next
  copying_next b next o f e h = record {
    few = omega arith;
    long = e ∙ k.long;
    clear = k.clear ∙ first_next (outside_at L c (length before) (length T)) i (length L) h (sym (outside_read b next o) ∙ f);
    bytes = o.bytes f
        ∙ ap (λ (S : List ℕ). copied (pick_list (eqb (record_at L i).code c) (span_in (record_at L i) ∷ []) []) S T) k.bytes
        ∙ copied_then (section_among L c i) (pick_list (eqb (record_at L i).code c) (span_in (record_at L i) ∷ []) []) before T
        ∙ ap (λ (M : List Span). copied M before T) section_next;
  }

  pub copying_end : length L ≤ i → BlocksCopied L c T i before after
  copying_end h = record {
    answer = sym (k.clear ∙ first_end (outside_at L c (length before) (length T)) i (length L) h);
    bytes = k.bytes;
  }

-- ---- the list of a block file

module _ (P : List Place) (B : List ℕ) where
  among_length : (j : ℕ) → length (records_among P B j) ≡ count (taken P) j
  unfolding records_among
  among_length j = select_length (taken P) (record_of P B) j

  pub length_records : length (records P B) ≡ count (taken P) (line_count B)
  unfolding records
  length_records = among_length (line_count B)

  -- the record of a line
  pub records_at : (j : ℕ) → j < line_count B → taken P j ≡ true → record_at (records P B) (count (taken P) j) ≡ record_of P B j
  unfolding record_at records records_among
  records_at j h t = select_at (taken P) (record_of P B) j (line_count B) no_record h t

  record_code : (c j : ℕ) → j < line_count B → taken P j ≡ true → in_section (records P B) c (count (taken P) j) ≡ eqb (line_code j) c
  unfolding in_section record_of
  record_code c j h t = ap (λ (x : SpanRecord). eqb x.code c) (records_at j h t)

  record_span : (j : ℕ) → j < line_count B → taken P j ≡ true → span_in (record_at (records P B) (count (taken P) j)) ≡ span_of P B j
  unfolding span_in record_of span_of
  record_span j h t = ap span_in (records_at j h t)

  -- a line that is taken adds its span to those of its section
  line_yes : (c j : ℕ) → j < line_count B → taken P j ≡ true → line_code j ≡ c → section_among (records P B) c (count (taken P) j) ≡ spans_among P B c j
      → section_among (records P B) c (count (taken P) j + 1) ≡ spans_among P B c (j + 1)
  line_yes c j h t e is =
      section_yes (records P B) c (count (taken P) j) (record_code c j h t ∙ eq-eqb (line_code j) c e)
      ∙ rw (is, record_span j h t) (sym (among_yes P B c j (span_is P B c j t e)))

  line_no : (c j : ℕ) → j < line_count B → taken P j ≡ true → (line_code j ≡ c → ⊥) → section_among (records P B) c (count (taken P) j) ≡ spans_among P B c j
      → section_among (records P B) c (count (taken P) j + 1) ≡ spans_among P B c (j + 1)
  line_no c j h t d is =
      section_no (records P B) c (count (taken P) j) (record_code c j h t ∙ ne_eqb (line_code j) c d)
      ∙ is ∙ sym (among_no P B c j (span_not P B c j d))

  -- the spans of a section among its records are those of the core, line by line and all
  pub section_lines : (c j : ℕ) → j ≤ line_count B → section_among (records P B) c (count (taken P) j) ≡ spans_among P B c j
  section_lines c zero h = rw (count_zero (taken P)) (section_none (records P B) c ∙ sym (among_none P B c))
  section_lines c (suc j) h =
      let is : section_among (records P B) c (count (taken P) j) ≡ spans_among P B c j = section_lines c j (omega arith) in
      rw (← add-one j) (by-test (taken P j)
      (λ t. rw (count_yes (taken P) j t) (by-test (eqb (line_code j) c)
      (λ e. line_yes c j (omega arith) t (eqb-true (line_code j) c e) is)
      (λ e. line_no c j (omega arith) t (eqb-false (line_code j) c e) is)))
      (λ f. rw (count_no (taken P) j f) (is ∙ sym (among_no P B c j (span_off P B c j f)))))

  pub section_spans : (c : ℕ) → section_among (records P B) c (length (records P B)) ≡ spans_of P B c
  unfolding spans_of
  section_spans c = rw length_records (section_lines c (line_count B) (omega arith))

  -- the rule of places of a record is that of its line
  pub low_line : (c j : ℕ) → j < line_count B → taken P j ≡ true
      → low_at (records P B) c (count (taken P) j) ≡ (eqb (line_code j) c && low_place (place P j) (span_size B j) (end_at P B j c))
  unfolding low_at is_low record_of
  low_line c j h t = rw (records_at j h t, section_lines c j (omega arith), end_among P B c j)

  -- of a line that has a size and starts behind the end before it in its section none is at fault
  line_clear : (c j : ℕ) → 0 < span_size B j → end_at P B j (line_code j) ≤ place P j → (eqb (line_code j) c && low_place (place P j) (span_size B j) (end_at P B j c)) ≡ false
  unfolding low_place
  line_clear c j some behind = by-test (eqb (line_code j) c)
      (λ e.
      let q : line_code j ≡ c = eqb-true (line_code j) c e in
      let l : end_at P B j c ≤ place P j = rw (← q) behind in
      rw (e, ne_eqb (span_size B j) 0 (λ z. absurd (omega arith)), le-ltb _ _ l))
      (λ e. rw e)

  -- 8 leaves no place at fault
  pub places_clear : Fitting P B → (c : ℕ) → first_low (records P B) c ≡ length (records P B)
  unfolding first_low
  places_clear f c = first_none (low_at (records P B) c) 0 (length (records P B)) (omega arith) (λ i l h.
      let a = count_hit (taken P) (line_count B) i (rw length_records at h) in
      rw (← a.3) (low_line c a.0 a.1 a.2 ∙ line_clear c a.0 (f.sized a.0 a.2) (f.behind a.0 a.2)))

-- exactly: on the list of the places that 8 walks, a record is at fault in its section where 8 finds its line at fault
module _ (o : ByteOrder) (C B : List ℕ) where
  abbrev P : List Place
  P = places_of o C B

  fault_line : (j : ℕ) → j < line_count B → is_placed o C B j ≡ true → fault8 o C B j ≡ low_place (place P j) (span_size B j) (end_at P B j (line_code j))
  unfolding fault8 sizeless early low_place
  fault_line j h t = rw (placed_labelled o C B j t, placed_reached o C B j t, t, place_value o C B j h t)

  pub low_fault : (j : ℕ) → j < line_count B → is_placed o C B j ≡ true → low_at (records P B) (line_code j) (count (taken P) j) ≡ fault8 o C B j
  low_fault j h t =
      low_line P B (line_code j) j h (taken_placed o C B j h ∙ t)
      ∙ rw (eq-eqb (line_code j) (line_code j) refl) (sym (fault_line j h t))

  -- so the places are clear in every section exactly where it finds none of the lines with a span at fault
  pub faultless_clear : ((j : ℕ) → j < line_count B → is_placed o C B j ≡ true → fault8 o C B j ≡ false) → (c : ℕ) → first_low (records P B) c ≡ length (records P B)
  unfolding first_low
  faultless_clear none c = first_none (low_at (records P B) c) 0 (length (records P B)) (omega arith) (λ i l h.
      let a = count_hit (taken P) (line_count B) i (rw (length_records P B) at h) in
      let t : is_placed o C B a.0 ≡ true = sym (taken_placed o C B a.0 a.1) ∙ a.2 in
      rw (← a.3) (by-test (eqb (line_code a.0) c)
      (λ e. let q : line_code a.0 ≡ c = eqb-true (line_code a.0) c e in rw (← q) (low_fault a.0 a.1 t ∙ none a.0 a.1 t))
      (λ e. low_line P B c a.0 a.1 a.2 ∙ rw e)))

  pub clear_faultless : ((c : ℕ) → first_low (records P B) c ≡ length (records P B)) → (j : ℕ) → j < line_count B → is_placed o C B j ≡ true → fault8 o C B j ≡ false
  unfolding first_low
  clear_faultless clear j h t =
      let u : taken P j ≡ true = taken_placed o C B j h ∙ t in
      sym (low_fault j h t)
      ∙ none_first (low_at (records P B) (line_code j)) 0 (length (records P B)) (count (taken P) j) (clear (line_code j)) (omega arith) (rw (length_records P B) (count_lt (taken P) j (line_count B) h u))

-- spans that end inside both sections are all copied, whatever the list
module _ (L : List SpanRecord) (c n m : ℕ) (in_c : EndsBy (section_among L c (length L)) n) (in_a : EndsBy (section_among L c (length L)) m) where
  end_read : (i k : ℕ) → span_end (span_in (record_at L i)) ≤ k → (record_at L i).place + (record_at L i).size ≤ k
  unfolding span_end span_in
  end_read i k h = h

  record_inside : (i : ℕ) → i < length L → outside_at L c n m i ≡ false
  unfolding outside_at is_outside in_section
  record_inside i h = by-test (eqb (record_at L i).code c)
      (λ t.
      let r = count (in_section L c) i in
      let e : span_end (span_at (section_among L c (length L)) r) ≡ span_end (span_in (record_at L i)) = ap span_end (section_at_lem L c i (length L) h t) in
      let l : span_end (span_in (record_at L i)) ≤ n = rw (← e) (in_c r (section_before L c i (length L) h t)) in
      let u : span_end (span_in (record_at L i)) ≤ m = rw (← e) (in_a r (section_before L c i (length L) h t)) in
      rw (t, le-ltb _ _ (end_read i n l), le-ltb _ _ (end_read i m u)))
      (λ f. rw f)

  pub none_outside : first_outside L c n m ≡ length L
  unfolding first_outside
  none_outside = first_none (outside_at L c n m) 0 (length L) (omega arith) (λ i l h. record_inside i h)

low_few : (L : List SpanRecord) (c : ℕ) → first_low L c ≤ length L
unfolding first_low
low_few L c = first_high (low_at L c) 0 (length L) (omega arith)

-- ---- the list filled, line by line

-- after j lines their records stand in the list
pub record Filling (P : List Place) (B : List ℕ) (before : List SpanRecord) (n j : ℕ) (after : List SpanRecord) : Type 0 where
  pub few : j ≤ line_count B
  pub many : n ≡ count (taken P) j
  pub long : length after ≡ length before
  pub rows : take n after ≡ records_among P B j

module _ (P : List Place) (B : List ℕ) (before : List SpanRecord) where
  pub filling_none : Filling P B before 0 0 before
  unfolding records_among
  filling_none = record { few = omega arith; many = sym (count_zero (taken P)); long = refl; rows = sym (select_zero (taken P) (record_of P B)) }

  module _ (n j : ℕ) (after : List SpanRecord) (k : Filling P B before n j after) where
    pub filling_few : n ≤ j
    filling_few = rw k.many (count_le (taken P) j)

    pub filling_yes : (x : SpanRecord) → x ≡ record_of P B j → taken P j ≡ true → j < line_count B → n < length after → Filling P B before (n + 1) (j + 1) (set after n x)
    unfolding records_among
    filling_yes x e t h room = record {
      few = omega arith;
      many = sym (count_yes (taken P) j t ∙ ap (λ (i : ℕ). i + 1) (sym k.many));
      long = length-set after n x ∙ k.long;
      rows =
          let f : take (n + 1) (set after n x) ≡ take n after ++ (x ∷ []) = rw add-one (take-suc-set after n x room) in
          f ∙ rw (k.rows, e) (sym (select_yes (taken P) (record_of P B) j t));
    }

    pub filling_no : taken P j ≡ false → j < line_count B → Filling P B before n (j + 1) after
    unfolding records_among
    filling_no f h = record {
      few = omega arith;
      many = k.many ∙ sym (count_no (taken P) j f);
      long = k.long;
      rows = k.rows ∙ sym (select_no (taken P) (record_of P B) j f);
    }

    pub filling_end : line_count B ≤ j → Filled P B n after
    unfolding records
    filling_end h =
        let e : j ≡ line_count B = omega (arith, k.few) in
        record { many = k.many ∙ sym (among_length P B j) ∙ ap (λ (i : ℕ). length (records_among P B i)) e; rows = k.rows ∙ ap (records_among P B) e }

-- no more records than lines, and no more of them clear
pub filled_few : (P : List Place) (B : List ℕ) (n : ℕ) (after : List SpanRecord) → Filled P B n after → n ≤ line_count B
filled_few P B n after f = omega (arith, f.many, length_records P B, count_le (taken P) (line_count B))

pub clear_few : (spans : List SpanRecord) (n c clear : ℕ) → n ≤ length spans → clear ≡ first_low (take n spans) c → clear ≤ n
clear_few spans n c clear h e = omega (arith, e, low_few (take n spans) c, length-take-le n spans h)

-- ---- a section copied by the list

module _ (P : List Place) (B : List ℕ) (c : ℕ) (T before : List ℕ) (fit : Fitting P B) (in_c : EndsBy (spans_of P B c) (length before)) (in_a : EndsBy (spans_of P B c) (length T))
    (n clear : ℕ) (spans : List SpanRecord) (filled : Filled P B n spans) (checked : clear ≡ first_low (take n spans) c) where
  pub clear_all : clear ≡ n
  clear_all = checked ∙ ap (λ (L : List SpanRecord). first_low L c) filled.rows ∙ places_clear P B fit c ∙ sym filled.many

  pub section_copied : (r : ℕ) (after : List ℕ) → BlocksCopied (take clear spans) c T r before after → after ≡ copied (spans_of P B c) before T
  section_copied r after o =
      let L : take clear spans ≡ records P B = ap (λ (i : ℕ). take i spans) clear_all ∙ filled.rows in
      let b : BlocksCopied (records P B) c T r before after = rw L at o in
      let all : r ≡ length (records P B) = b.answer ∙ none_outside (records P B) c (length before) (length T) (rw (section_spans P B c) in_c) (rw (section_spans P B c) in_a) in
      b.bytes ∙ ap (λ (i : ℕ). copied (section_among (records P B) c i) before T) all ∙ ap (λ (M : List Span). copied M before T) (section_spans P B c)

-- C's bytes S are written at `at`, and copied over there: what is read for it is S, and what is left is the section after block copying
module _ (out : List ℕ) (at : ℕ) (S mid : List ℕ) (room : at + length S ≤ length out) (put : mid ≡ spliced out at S) (k : ℕ) (wide : k ≡ length S) where
  pub part_is : take k (drop at mid) ≡ S
  part_is = rw (put, wide) (within_read S (spliced out at S) at (within_spliced out at S room))

  rest_is : drop k (drop at mid) ≡ drop (at + length S) out
  rest_is = rw (put, wide) (drop-drop (length S) at (spliced out at S) ∙ drop_spliced out at S room)

  pub part_ends : (L : List Span) → EndsBy L (length S) → EndsBy L (length (take k (drop at mid)))
  part_ends L ends = rw part_is ends

  pub section_written : (L : List Span) (T part : List ℕ) → part ≡ copied L (take k (drop at mid)) T → take at mid ++ (part ++ drop k (drop at mid)) ≡ spliced out at (copied L S T)
  unfolding spliced
  section_written L T part is =
      let e : part ≡ copied L S T = is ∙ ap (λ (l : List ℕ). copied L l T) part_is in
      let n : length (copied L S T) ≡ length S = length_copied L S T in
      let f : take at mid ≡ take at out = ap (take at) put ∙ take_spliced out at S room in
      rw (e, f, rest_is, n)
