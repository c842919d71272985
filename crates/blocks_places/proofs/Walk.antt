-- The laws of the walk: the rows of the table of places are read back, a step equals its definition in each of a line's three ways, and what a turn of the loop
-- changes; and what is known of every line once all are placed. Assumes nothing.
use Rattle.std.specs.Prelude.{Ok, Err}
use Prim.Native.Nat.{ℕ, zero, suc, ◌+◌, ◌-◌, ◌*◌, ◌/◌, ◌%◌, ◌≤◌, ◌<◌}
use mathlib.Core.Path.{◌≡◌, refl, sym, ap, ◌∙◌}
use mathlib.Core.Logic.{◌⊎◌, inl, inr}
use mathlib.Core.Bool.{Bool, true, false, cond, not, ◌&&◌, ◌||◌}
use mathlib.Core.List.{List, [], ◌∷◌, ◌++◌}
use native.Mathlib.Omega.{arith}
use lib.ListN.{length, get_or, set, replicate, length-set, get_or-replicate}
use lib.Seq.{get_or-set_same, get_or-set_other}
use lib.Dec.{eqb, ltb}
use borrow.Author.Tests.{lt-ltb, le-ltb, eqb-true, eqb-false, ltb-false, not-false}
use Rattle.base_lists.specs.Ranges.{first}
use Rattle.base_lists.specs.Windows.{Within, spliced}
use Rattle.base_lists.specs.Records.{flat}
use Rattle.base_lists.proofs.Ranges.{by-test, both, by-lt, first_here, first_next, first_end, first_high, none_first, gather_zero, gather_yes, or_parts, gather_all_length, select_same, select_all_at}
use Rattle.base_lists.proofs.Windows.{within_at, within_within, within_spliced, length_spliced, spliced_nil, spliced_then, within_gather}
use Rattle.base_lists.proofs.Records.{length_flat, within_flat}
use Rattle.base_fields.specs.declared.ByteOrder.{ByteOrder}
use Rattle.base_fields.specs.declared.ByteOrder.TheVariants.{Big}
use Rattle.base_fields.specs.Numbers.{number, encoded}
use Rattle.base_fields.proofs.Numbers.{length_encoded, within_number}
use Rattle.base_scope.specs.Codes.{LINES, line_code, line_block}
use Rattle.base_scope.specs.Limits.{BLOCK_LIMIT, PLACE_ROW, PLACE_TABLE}
use Rattle.elf_records.specs.declared.symbol.SymbolEntry.{SymbolEntry}
use Rattle.elf_symbols.specs.Symbols.{symbol_count, symbol}
use Rattle.blocks_file.specs.Table.{Parsed}
use Rattle.blocks_file.proofs.Blocks.{count_high}
use Rattle.blocks_places.specs.declared.PlaceFault.TheVariants.{Misplaced, Misaligned}
use Rattle.blocks_places.specs.declared.LineStep.{LineStep}
use Rattle.blocks_places.specs.Lines.{line_count, labelled, span_size, span_align8}
use Rattle.blocks_places.specs.Places.{Place, nowhere, label_symbol, has_symbol, label_value, lacks, reached, is_placed, place_of, places_of, taken, place, end_at}
use Rattle.blocks_places.specs.Faults.{Placed, Placing, odd_place, sizeless, early, fault8, fault9, is_misplaced, misplaced_at, placing, Fitting}
use Rattle.blocks_places.specs.Table.{held_size, place_in, places_in, place_row, place_table, Laid, Placement, off_step, low_place, on_step, on_after, step_of}
use Rattle.blocks_places.proofs.Places.{label_value_read, symbol_yes, symbol_no, lacks_labelled, lacks_plain, reached_first, reached_next, placed_is, placed_not, placed_labelled, placed_reached, place_yes, place_no, place_taken, length_places, taken_placed, place_value, places_small, taken_inside, end_none, end_other, end_off, end_moved}

-- ---- rows

pub length_place_row : (s : ℕ) (p : Place) → length (place_row s p) ≡ PLACE_ROW
unfolding place_row
length_place_row s p = length_flat (encoded Big 4) 4 (length_encoded Big 4) (cond p.taken s 0 ∷ p.at ∷ [])

-- a size tells whether a line is taken
flag_read : (s : ℕ) (b : Bool) → (b ≡ true → 0 < s) → ltb 0 (cond b s 0) ≡ b
flag_read s true h = lt-ltb 0 s (h refl)
flag_read s false h = refl

-- a row that stands in a table, read back
module _ (s : ℕ) (p : Place) (j : ℕ) (table : List ℕ) (w : Within (place_row s p) (PLACE_ROW * j) table) where
  within_word : (k : ℕ) → k < 2 → Within (encoded Big 4 (get_or (cond p.taken s 0 ∷ p.at ∷ []) k 0)) (4 * k) (place_row s p)
  unfolding place_row
  within_word k h = within_flat (encoded Big 4) 4 (length_encoded Big 4) (cond p.taken s 0 ∷ p.at ∷ []) k 0 h

  word_at_lem : (k : ℕ) → k < 2 → number Big 4 table (PLACE_ROW * j + 4 * k) ≡ get_or (cond p.taken s 0 ∷ p.at ∷ []) k 0
  word_at_lem k h = within_number Big 3 _ (PLACE_ROW * j + 4 * k) table (within_within _ (place_row s p) table (PLACE_ROW * j) (4 * k) (within_word k h) w)

  held_size_lem : held_size table j ≡ cond p.taken s 0
  unfolding held_size
  held_size_lem =
      let z : PLACE_ROW * j ≡ PLACE_ROW * j + 4 * 0 = omega arith in
      ap (number Big 4 table) z ∙ word_at_lem 0 (omega arith)

  pub place_read : (p.taken ≡ true → 0 < s) → place_in table j ≡ p
  unfolding place_in
  place_read sized =
      let f : ltb 0 (held_size table j) ≡ p.taken = ap (ltb 0) held_size_lem ∙ flag_read s p.taken sized in
      let e : number Big 4 table (PLACE_ROW * j + 4) ≡ p.at = word_at_lem 1 (omega arith) in
      λ k. record { taken = f k; at = e k }

  pub size_held : p.taken ≡ true → held_size table j ≡ s
  size_held t = held_size_lem ∙ rw t

-- row j of the first n rows of a table
module _ (table : List ℕ) (n j : ℕ) (h : j < n) where
  row_in : get_or (places_in table n) j nowhere ≡ place_in table j
  unfolding places_in
  row_in = select_all_at (place_in table) j n nowhere h

  pub taken_row_lem : taken (places_in table n) j ≡ (place_in table j).taken
  unfolding taken
  taken_row_lem = ap (λ (p : Place). p.taken) row_in

  pub place_row_lem : place (places_in table n) j ≡ (place_in table j).at
  unfolding place
  place_row_lem = ap (λ (p : Place). p.at) row_in

-- of a table in hand: line j, as it is read
module _ (P : List Place) (B table places : List ℕ) (x : Laid P B table places) (j : ℕ) (h : j < line_count B) where
  pub laid_taken : (place_in places j).taken ≡ taken P j
  laid_taken = sym (taken_row_lem places (line_count B) j h) ∙ ap (λ (Q : List Place). taken Q j) x.is

  pub laid_place : (place_in places j).at ≡ place P j
  laid_place = sym (place_row_lem places (line_count B) j h) ∙ ap (λ (Q : List Place). place Q j) x.is

  -- the size of a line that is taken
  pub laid_size : (place_in places j).taken ≡ true → held_size places j ≡ span_size B j
  laid_size t = x.sizes j (sym laid_taken ∙ t)

  pub laid_inside : (PLACE_ROW * j + PLACE_ROW ≤ length places) × (j < LINES * BLOCK_LIMIT)
  laid_inside = (omega (arith, x.long), omega (arith, count_high B))

module _ (o : ByteOrder) (C B : List ℕ) where
  pub length_place_table : (n : ℕ) → length (place_table o C B n) ≡ PLACE_ROW * n
  unfolding place_table
  length_place_table n = gather_all_length (λ j. place_row (span_size B j) (place_of o C B j)) PLACE_ROW (λ j. length_place_row (span_size B j) (place_of o C B j)) n

  pub place_table_zero : place_table o C B 0 ≡ []
  unfolding place_table
  place_table_zero = gather_zero (λ i. true) (λ j. place_row (span_size B j) (place_of o C B j))

  pub place_table_next : (n : ℕ) → place_table o C B (n + 1) ≡ place_table o C B n ++ place_row (span_size B n) (place_of o C B n)
  unfolding place_table
  place_table_next n = gather_yes (λ i. true) (λ j. place_row (span_size B j) (place_of o C B j)) n refl

  -- row j stands at its place
  within_place_row : (j n : ℕ) → j < n → Within (place_row (span_size B j) (place_of o C B j)) (PLACE_ROW * j) (place_table o C B n)
  unfolding place_table
  within_place_row j n h = within_gather (λ i. true) (λ j. place_row (span_size B j) (place_of o C B j)) j n (PLACE_ROW * j) (length_place_table j) h refl

  -- the whole table, read back
  module _ (table : List ℕ) (w : Within (place_table o C B (line_count B)) 0 table) where
    row_there : (j : ℕ) → j < line_count B → Within (place_row (span_size B j) (place_of o C B j)) (PLACE_ROW * j) table
    row_there j h =
        within_at (place_row (span_size B j) (place_of o C B j)) table (0 + PLACE_ROW * j) (PLACE_ROW * j) (omega arith)
        (within_within (place_row (span_size B j) (place_of o C B j)) (place_table o C B (line_count B)) table 0 (PLACE_ROW * j) (within_place_row j (line_count B) h) w)

    pub places_read : ((j : ℕ) → j < line_count B → is_placed o C B j ≡ true → 0 < span_size B j) → places_in table (line_count B) ≡ places_of o C B
    unfolding places_in places_of
    places_read sized = select_same (λ j. true) (λ j. true) (place_in table) (place_of o C B) (line_count B) (λ j h. refl) (λ j h t.
        place_read (span_size B j) (place_of o C B j) j table (row_there j h) (λ y. sized j h (sym (place_taken o C B j) ∙ y)))

    pub sizes_read : (j : ℕ) → j < line_count B → is_placed o C B j ≡ true → held_size table j ≡ span_size B j
    sizes_read j h t = size_held (span_size B j) (place_of o C B j) j table (row_there j h) (place_taken o C B j ∙ t)

  pub place_table_fits : (before : List ℕ) (n : ℕ) → n ≤ line_count B → PLACE_TABLE ≤ length before → 0 + length (place_table o C B n) ≤ length before
  place_table_fits before n h l = rw (length_place_table n) (omega (arith, count_high B))

  -- ---- the refusals of a line

  fault8_off : (j : ℕ) → (labelled B j && reached o C B j) ≡ false → fault8 o C B j ≡ false
  unfolding fault8 sizeless early
  fault8_off j f = rw (placed_not o C B j f) (by-test (labelled B j)
      (λ t. by-test (reached o C B j) (λ s. both (rw (t, s)) f) (λ s. rw (t, s)))
      (λ t. rw t))

  fault8_absent : (j : ℕ) → labelled B j ≡ true → reached o C B j ≡ true → is_placed o C B j ≡ false → fault8 o C B j ≡ eqb (span_size B j) 0
  unfolding fault8 sizeless early
  fault8_absent j t s f = rw (t, s, f) (by-test (eqb (span_size B j) 0) (λ y. rw y) (λ y. rw y))

  fault8_taken : (j : ℕ) → is_placed o C B j ≡ true → fault8 o C B j ≡ (eqb (span_size B j) 0 || ltb (label_value o C B j) (end_at (places_of o C B) B j (line_code j)))
  unfolding fault8 sizeless early
  fault8_taken j t = rw (placed_labelled o C B j t, placed_reached o C B j t, t)

  fault9_off : (j : ℕ) → is_placed o C B j ≡ false → fault9 o C B j ≡ false
  unfolding fault9
  fault9_off j f = rw f

  fault9_taken : (j : ℕ) → is_placed o C B j ≡ true
      → fault9 o C B j ≡ odd_place (label_value o C B j) (span_align8 B j)
  unfolding fault9
  fault9_taken j t = rw t

  -- ---- steps

  -- a line with no label, or in a block that is switched off
  pub step_off : (j e : ℕ) (r : Bool) → j < line_count B → (labelled B j && reached o C B j) ≡ false → e ≡ end_at (places_of o C B) B j (line_code j) → r ≡ reached o C B j
      → off_step false e (on_after j r) ≡ step_of o C B j
  unfolding off_step on_after step_of
  step_off j e r h f is on =
      let n : is_placed o C B j ≡ false = placed_not o C B j f in
      let m : taken (places_of o C B) j ≡ false = taken_placed o C B j h ∙ n in
      let q : (reached o C B j && not (lacks o C B j)) ≡ reached o C B j = by-test (reached o C B j)
      (λ t. by-test (labelled B j) (λ s. both (rw (s, t)) f) (λ s. rw (t, lacks_plain o C B j s)))
      (λ t. rw t) in
      rw (fault8_off j f, fault9_off j n, place_no o C B j n, end_off (places_of o C B) B j (line_code j) m, reached_next o C B j, q, is, on)

  -- a label that is absent
  pub step_absent : (j e : ℕ) → j < line_count B → labelled B j ≡ true → reached o C B j ≡ true → has_symbol o C B j ≡ false → e ≡ end_at (places_of o C B) B j (line_code j)
      → off_step (eqb (span_size B j) 0) e (on_after j false) ≡ step_of o C B j
  unfolding off_step on_after step_of
  step_absent j e h t s f is =
      let n : is_placed o C B j ≡ false = placed_is o C B j t s ∙ f in
      let m : taken (places_of o C B) j ≡ false = taken_placed o C B j h ∙ n in
      let l : lacks o C B j ≡ true = lacks_labelled o C B j t ∙ ap not f in
      rw (fault8_absent j t s n, fault9_off j n, place_no o C B j n, end_off (places_of o C B) B j (line_code j) m, reached_next o C B j, s, l, is)

  -- a span
  pub step_taken : (j e : ℕ) → j < line_count B → labelled B j ≡ true → reached o C B j ≡ true → has_symbol o C B j ≡ true → e ≡ end_at (places_of o C B) B j (line_code j)
      → on_step (label_value o C B j) (span_size B j) (span_align8 B j) e (on_after j true) ≡ step_of o C B j
  unfolding on_step low_place odd_place on_after step_of
  step_taken j e h t s p is =
      let y : is_placed o C B j ≡ true = placed_is o C B j t s ∙ p in
      let m : taken (places_of o C B) j ≡ true = taken_placed o C B j h ∙ y in
      let l : lacks o C B j ≡ false = lacks_labelled o C B j t ∙ ap not p in
      rw (fault8_taken j y, fault9_taken j y, place_yes o C B j y, end_moved (places_of o C B) B j m, place_value o C B j h y, reached_next o C B j, s, l, is)

  -- the step of a line with a label, from what was read: its symbol's number k of n, its size z and its align8 a
  module _ (j e k n z : ℕ) (r : Bool) (inside : j < line_count B) (t : labelled B j ≡ true) (s : reached o C B j ≡ true) (is : e ≡ end_at (places_of o C B) B j (line_code j))
      (found : k ≡ label_symbol o C B j) (many : n ≡ symbol_count o C) (size : z ≡ span_size B j) where
    pub step_found : (y : SymbolEntry) (a : ℕ) → k < n → y ≡ symbol o C k → a ≡ span_align8 B j → r ≡ on_after j true
        → on_step y.st_value z a e r ≡ step_of o C B j
    step_found y a h read align on =
        let l : label_symbol o C B j < symbol_count o C = omega arith in
        rw (label_value_read o C B j k y found read, size, align, on) (step_taken j e inside t s (symbol_yes o C B j l) is)

    pub step_lost : n ≤ k → r ≡ on_after j false → off_step (eqb z 0) e r ≡ step_of o C B j
    step_lost h on =
        let l : symbol_count o C ≤ label_symbol o C B j = omega arith in
        rw (size, on) (step_absent j e inside t s (symbol_no o C B j l) is)

  -- ---- the answer

  at_8 : (n : ℕ) → misplaced_at o C B ≡ n → n < line_count B → fault8 o C B n ≡ true → placing o C B ≡ Err (Misplaced (line_block n))
  unfolding placing
  at_8 n e h t = rw (e, lt-ltb n (line_count B) h, t)

  at_9 : (n : ℕ) → misplaced_at o C B ≡ n → n < line_count B → fault8 o C B n ≡ false → placing o C B ≡ Err (Misaligned (line_block n))
  unfolding placing
  at_9 n e h f = rw (e, lt-ltb n (line_count B) h, f)

  at_end : line_count B ≤ misplaced_at o C B → placing o C B ≡ Placed
  unfolding placing
  at_end h = rw (le-ltb (misplaced_at o C B) (line_count B) h)

  misplaced_8 : (j : ℕ) → fault8 o C B j ≡ true → is_misplaced o C B j ≡ true
  unfolding is_misplaced
  misplaced_8 j t = rw t

  misplaced_9 : (j : ℕ) → fault8 o C B j ≡ false → fault9 o C B j ≡ true → is_misplaced o C B j ≡ true
  unfolding is_misplaced
  misplaced_9 j f t = rw (f, t)

  misplaced_no : (j : ℕ) → fault8 o C B j ≡ false → fault9 o C B j ≡ false → is_misplaced o C B j ≡ false
  unfolding is_misplaced
  misplaced_no j f g = rw (f, g)

-- ---- the loop of the walk

-- the first j lines were placed: their rows stand in the table, `ends` holds the ends of the sections, and `on` says whether line j is reached
pub record Walking (o : ByteOrder) (C B before : List ℕ) (j : ℕ) (ends : List ℕ) (on : Bool) (places : List ℕ) : Type 0 where
  pub few : j ≤ line_count B
  pub five : length ends ≡ LINES + 1
  pub ends_at : (c : ℕ) → c < LINES + 1 → get_or ends c 0 ≡ end_at (places_of o C B) B j c
  pub reach : on ≡ reached o C B j
  pub clear : misplaced_at o C B ≡ first (is_misplaced o C B) j (line_count B)
  pub long : length places ≡ length before
  pub rows : places ≡ spliced before 0 (place_table o C B j)

five_zeros : (c : ℕ) → c < LINES + 1 → get_or (replicate 5 zero) c zero ≡ zero
five_zeros c h = get_or-replicate 5 c 0 0 h

pub walking_none : (o : ByteOrder) (C B places : List ℕ) → Walking o C B places 0 (replicate 5 0) true places
unfolding misplaced_at
walking_none o C B places = record {
  few = omega arith;
  five = refl;
  ends_at = λ c h. five_zeros c h ∙ sym (end_none (places_of o C B) B c);
  reach = sym (reached_first o C B 0 refl);
  clear = refl;
  long = refl;
  rows = sym (ap (spliced places 0) (place_table_zero o C B) ∙ spliced_nil places 0);
}

module _ (o : ByteOrder) (C B before : List ℕ) (j : ℕ) (ends : List ℕ) (on : Bool) (places : List ℕ) (w : Walking o C B before j ends on places) where
  pub walking_end_at : (c : ℕ) → c ≡ line_code j → get_or ends c 0 ≡ end_at (places_of o C B) B j (line_code j)
  walking_end_at c e = rw e (w.ends_at (line_code j) (omega arith))

  placement : (r : Placing) → misplaced_at o C B ≡ j → r ≡ placing o C B → Placement o C B r before places
  placement r e a = record { answer = a; rows = w.rows ∙ ap (λ (k : ℕ). spliced before 0 (place_table o C B k)) (sym e) }

  pub walking_end : line_count B ≤ j → Placement o C B Placed before places
  walking_end h =
      let e : misplaced_at o C B ≡ j = w.clear ∙ first_end (is_misplaced o C B) j (line_count B) h in
      placement Placed e (sym (at_end o C B (rw e h)))

  -- the step of line j in hand
  module _ (s : LineStep) (is : s ≡ step_of o C B j) (h : j < line_count B) where
    by_8 : s.misplaced ≡ fault8 o C B j
    unfolding step_of
    by_8 = rw is

    by_9 : s.misaligned ≡ fault9 o C B j
    unfolding step_of
    by_9 = rw is

    stops : is_misplaced o C B j ≡ true → misplaced_at o C B ≡ j
    stops t = w.clear ∙ first_here (is_misplaced o C B) j (line_count B) h t

    pub walking_8 : s.misplaced ≡ true → Placement o C B (Err (Misplaced (line_block j))) before places
    walking_8 t =
        let f : fault8 o C B j ≡ true = sym by_8 ∙ t in
        let e : misplaced_at o C B ≡ j = stops (misplaced_8 o C B j f) in
        placement (Err (Misplaced (line_block j))) e (sym (at_8 o C B j e h f))

    pub walking_9 : s.misplaced ≡ false → s.misaligned ≡ true → Placement o C B (Err (Misaligned (line_block j))) before places
    walking_9 n t =
        let f : fault8 o C B j ≡ false = sym by_8 ∙ n in
        let e : misplaced_at o C B ≡ j = stops (misplaced_9 o C B j f (sym by_9 ∙ t)) in
        placement (Err (Misaligned (line_block j))) e (sym (at_9 o C B j e h f))

    -- the row of the step, its end and its flag
    row_is : flat (encoded Big 4) (s.size ∷ s.place ∷ []) ≡ place_row (span_size B j) (place_of o C B j)
    unfolding step_of place_row
    row_is = rw is

    end_is : s.end ≡ end_at (places_of o C B) B (j + 1) (line_code j)
    unfolding step_of
    end_is = rw is

    on_is : s.on ≡ reached o C B (j + 1)
    unfolding step_of
    on_is = rw is

    other : (c : ℕ) → (c ≡ line_code j → ⊥) → end_at (places_of o C B) B (j + 1) c ≡ end_at (places_of o C B) B j c
    other c d = end_other (places_of o C B) B j c (λ e. d (sym e))

    moved : (c k : ℕ) → c ≡ line_code j → k < LINES + 1 → get_or (set ends c s.end) k 0 ≡ end_at (places_of o C B) B (j + 1) k
    moved c k e l =
        let u : c < length ends = omega (arith, w.five) in
        by-test (eqb k c)
        (λ t.
        let q : k ≡ c = eqb-true _ _ t in
        rw q (get_or-set_same ends c s.end 0 u ∙ end_is ∙ ap (end_at (places_of o C B) B (j + 1)) (sym e)))
        (λ t.
        let q = eqb-false k c t in
        get_or-set_other ends c k s.end 0 q ∙ w.ends_at k l ∙ sym (other k (λ x. q (x ∙ sym e))))

    pub walking_next : (c : ℕ) → c ≡ line_code j → s.misplaced ≡ false → s.misaligned ≡ false → PLACE_TABLE ≤ length before
        → Walking o C B before (j + 1) (set ends c s.end) s.on (spliced places (PLACE_ROW * j) (flat (encoded Big 4) (s.size ∷ s.place ∷ [])))
    walking_next c e f g m =
        let v : is_misplaced o C B j ≡ false = misplaced_no o C B j (sym by_8 ∙ f) (sym by_9 ∙ g) in
        let t : PLACE_ROW * j ≡ 0 + length (place_table o C B j) = omega (arith, length_place_table o C B j) in
        let r : PLACE_ROW * j + length (place_row (span_size B j) (place_of o C B j)) ≤ length before = omega (arith, length_place_row (span_size B j) (place_of o C B j), count_high B) in
        record {
          few = omega arith;
          five = length-set ends c s.end ∙ w.five;
          ends_at = λ k l. moved c k e l;
          reach = on_is;
          clear = w.clear ∙ first_next (is_misplaced o C B) j (line_count B) h v;
          long = rw row_is (length_spliced places (PLACE_ROW * j) (place_row (span_size B j) (place_of o C B j)) (rw w.long r) ∙ w.long);
          rows = rw (row_is, w.rows) (spliced_then before 0 (place_table o C B j) (place_row (span_size B j) (place_of o C B j)) (PLACE_ROW * j) t r ∙ rw (← place_table_next o C B j));
        }

-- ---- all lines placed

module _ (o : ByteOrder) (C B : List ℕ) where
  high : misplaced_at o C B ≤ line_count B
  unfolding misplaced_at
  high = first_high (is_misplaced o C B) 0 (line_count B) (omega arith)

  -- the walk found no fault
  all_clear : placing o C B ≡ Placed → misplaced_at o C B ≡ line_count B
  all_clear e = by-lt (misplaced_at o C B) (line_count B)
      (λ h. by-test (fault8 o C B (misplaced_at o C B))
      (λ t. told_8 _ _ _ (sym (at_8 o C B _ refl h t) ∙ e))
      (λ f. told_9 _ _ _ (sym (at_9 o C B _ refl h f) ∙ e)))
      (λ h. omega (arith, high))
    where
      told_8 : (n a b : ℕ) → Err (Misplaced n) ≡ Placed → a ≡ b
      told_8 n a b e = cc

      told_9 : (n a b : ℕ) → Err (Misaligned n) ≡ Placed → a ≡ b
      told_9 n a b e = cc

  -- no line is at fault
  pub placed_clear : placing o C B ≡ Placed → (j : ℕ) → j < line_count B → is_misplaced o C B j ≡ false
  unfolding misplaced_at
  placed_clear p j h = none_first (is_misplaced o C B) 0 (line_count B) j (all_clear p) (omega arith) h

  clear_8 : (j : ℕ) → is_misplaced o C B j ≡ false → fault8 o C B j ≡ false
  clear_8 j f = by-test (fault8 o C B j) (λ t. both (misplaced_8 o C B j t) f) (λ n. n)

  clear_9 : (j : ℕ) → is_misplaced o C B j ≡ false → fault9 o C B j ≡ false
  clear_9 j f = by-test (fault9 o C B j) (λ t. both (misplaced_9 o C B j (clear_8 j f) t) f) (λ n. n)

-- what is known of a line that is placed, once all are
pub record Spanned (o : ByteOrder) (C B : List ℕ) (j : ℕ) : Type 0 where
  pub sized : 0 < span_size B j
  pub behind : end_at (places_of o C B) B j (line_code j) ≤ label_value o C B j
  pub aligned : (span_align8 B j ≡ 0) ⊎ (span_align8 B j ≡ 8 - label_value o C B j % 8)

odd_no : (p a : ℕ) → odd_place p a ≡ false → (a ≡ 0) ⊎ (a ≡ 8 - p % 8)
unfolding odd_place
odd_no p a f = by-test (eqb a 0)
    (λ t. inl (eqb-true _ _ t))
    (λ n. inr (eqb-true _ _ (not-false _ (rw n at f))))

module _ (o : ByteOrder) (C B : List ℕ) (p : placing o C B ≡ Placed) where
  pub placed_facts : (j : ℕ) → j < line_count B → is_placed o C B j ≡ true → Spanned o C B j
  placed_facts j h t =
      let c : is_misplaced o C B j ≡ false = placed_clear o C B p j h in
      let r = or_parts _ _ (sym (fault8_taken o C B j t) ∙ clear_8 o C B j c) in
      let n = eqb-false (span_size B j) 0 r.0 in
      record {
        sized = omega (arith, n);
        behind = ltb-false _ _ r.1;
        aligned = odd_no (label_value o C B j) (span_align8 B j) (sym (fault9_taken o C B j t) ∙ clear_9 o C B j c);
      }

  -- a label has a size, also where its symbol is absent, as long as its block was not switched off before
  pub reached_sized : (j : ℕ) → j < line_count B → labelled B j ≡ true → reached o C B j ≡ true → 0 < span_size B j
  reached_sized j h t s = by-test (is_placed o C B j)
      (λ y. (placed_facts j h y).sized)
      (λ n.
      let z = sym (fault8_absent o C B j t s n) ∙ clear_8 o C B j (placed_clear o C B p j h) in
      let d = eqb-false (span_size B j) 0 z in
      omega (arith, d))

  -- the table that the walk leaves holds all sizes and places
  module _ (before after : List ℕ) (l : PLACE_TABLE ≤ length before) (e : after ≡ spliced before 0 (place_table o C B (misplaced_at o C B))) where
    walked : Within (place_table o C B (line_count B)) 0 after
    walked = rw (e, all_clear o C B p) (within_spliced before 0 (place_table o C B (line_count B)) (place_table_fits o C B before (line_count B) (omega arith) l))

    pub walked_of : places_in after (line_count B) ≡ places_of o C B
    walked_of = places_read o C B after walked (λ j h t. (placed_facts j h t).sized)

    walked_size : (j : ℕ) → j < line_count B → is_placed o C B j ≡ true → held_size after j ≡ span_size B j
    walked_size = sizes_read o C B after walked

  -- the places fit
  module _ (small : (i : ℕ) → get_or C i 0 < 256) where
    inside : (j : ℕ) → taken (places_of o C B) j ≡ true → j < line_count B
    inside j t = omega (arith, taken_inside (places_of o C B) j t, length_places o C B)

    placed : (j : ℕ) → taken (places_of o C B) j ≡ true → is_placed o C B j ≡ true
    placed j t = sym (taken_placed o C B j (inside j t)) ∙ t

    pub fitting_of : Fitting (places_of o C B) B
    fitting_of = record {
      many = length_places o C B;
      labels = λ j t. placed_labelled o C B j (placed j t);
      sized = λ j t. (placed_facts j (inside j t) (placed j t)).sized;
      behind = λ j t. rw (place_value o C B j (inside j t) (placed j t)) (placed_facts j (inside j t) (placed j t)).behind;
      small = places_small o C B small;
    }

    -- the tables in hand behind the walk
    pub laid_of : (table before after : List ℕ) → Parsed B table → PLACE_TABLE ≤ length before → length after ≡ length before
        → after ≡ spliced before 0 (place_table o C B (misplaced_at o C B)) → Laid (places_of o C B) B table after
    laid_of table before after parsed l long e = record {
      parsed = parsed;
      long = omega (arith, long, count_high B);
      is = walked_of before after l e;
      sizes = λ j t. walked_size before after l e j (inside j t) (placed j t);
      fitting = fitting_of;
    }
