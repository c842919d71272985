-- The laws of places: which lines are reached and placed in C, what the list of places says of them, the blocks that stay on, and the ends of sections, which ascend
-- once 8 has passed. Assumes nothing.
use Prim.Native.Nat.{ℕ, zero, suc, ◌+◌, ◌-◌, ◌*◌, ◌/◌, ◌%◌, ◌^◌, ◌≤◌, ◌<◌}
use mathlib.Core.Path.{◌≡◌, refl, sym, ap, ◌∙◌}
use mathlib.Core.Bool.{Bool, true, false, not, ◌&&◌, ◌||◌, and-false}
use mathlib.Core.List.{List}
use native.Mathlib.Numerals.{add-one}
use native.Mathlib.Omega.{arith}
use lib.ListN.{length, get_or, get_or-eq_default}
use lib.Dec.{eqb, ltb}
use borrow.Author.Tests.{lt-ltb, le-ltb, eq-eqb, ne_eqb, eqb-true, eqb-false, ltb-true}
use Rattle.base_lists.specs.Ranges.{first}
use Rattle.base_lists.proofs.Ranges.{by-test, both, by-lt, and_parts, first_here, first_next, first_end, first_none, none_first, first_high, first_to, first_more, select_all_length, select_all_at}
use Rattle.base_fields.specs.declared.ByteOrder.{ByteOrder}
use Rattle.base_fields.specs.Numbers.{number}
use Rattle.base_fields.specs.Layouts.{fields_from}
use Rattle.base_fields.proofs.Numbers.{number_lt}
use Rattle.elf_records.specs.Symbol.{symbol_layout, symbol_from, symbol_at}
use Rattle.elf_records.specs.declared.symbol.SymbolEntry.{SymbolEntry}
use Rattle.base_scope.specs.Codes.{LINES, line_code, line_block, first_line}
use Rattle.elf_symbols.specs.Symbols.{symbol_count, symbol_place, symbol, symbol_named}
use Rattle.blocks_file.specs.Blocks.{block_count}
use Rattle.blocks_places.specs.Lines.{line_count, labelled, span_label, span_size}
use Rattle.blocks_places.specs.Places.{Place, nowhere, label_symbol, has_symbol, label_value, lacks, reached, is_placed, place_of, places_of, taken, place, untaken, live, end_at}
use Rattle.blocks_places.specs.Faults.{Fitting}

-- ---- lines that are reached and placed, in C

module _ (o : ByteOrder) (C B : List ℕ) where
  pub symbol_read : (j k : ℕ) (l : List ℕ) → l ≡ span_label B j → k ≡ symbol_named o C l → k ≡ label_symbol o C B j
  unfolding label_symbol
  symbol_read j k l e f = f ∙ ap (symbol_named o C) e

  pub label_value_read : (j k : ℕ) (s : SymbolEntry) → k ≡ label_symbol o C B j → s ≡ symbol o C k → s.st_value ≡ label_value o C B j
  unfolding label_value
  label_value_read j k s e is = rw (is, e)

  -- a label's value is a word of the object, so it is below 2 ^ 32 where the object's elements are bytes
  pub value_word : (j : ℕ) → label_value o C B j ≡ number o 4 C (symbol_place o C (label_symbol o C B j) + 4)
  unfolding label_value symbol symbol_at symbol_from symbol_layout fields_from
  value_word j = refl

  pub value_lt : ((i : ℕ) → get_or C i 0 < 256) → (j : ℕ) → label_value o C B j < 4294967296
  value_lt small j = rw (value_word j) (number_lt o 4 C (symbol_place o C (label_symbol o C B j) + 4) small)

  pub symbol_yes : (j : ℕ) → label_symbol o C B j < symbol_count o C → has_symbol o C B j ≡ true
  unfolding has_symbol
  symbol_yes j h = lt-ltb _ _ h

  pub symbol_no : (j : ℕ) → symbol_count o C ≤ label_symbol o C B j → has_symbol o C B j ≡ false
  unfolding has_symbol
  symbol_no j h = le-ltb _ _ h

  pub lacks_labelled : (j : ℕ) → labelled B j ≡ true → lacks o C B j ≡ not (has_symbol o C B j)
  unfolding lacks
  lacks_labelled j t = rw t

  pub lacks_plain : (j : ℕ) → labelled B j ≡ false → lacks o C B j ≡ false
  unfolding lacks
  lacks_plain j f = rw f

  -- no line in [a, j) lacks its symbol
  pub clear_next : (a j : ℕ) → a ≤ j → first (lacks o C B) a j ≡ j → lacks o C B j ≡ false → first (lacks o C B) a (j + 1) ≡ j + 1
  clear_next a j l e f = first_none (lacks o C B) a (j + 1) (omega arith) (λ i m u. by-lt i j
      (λ g. none_first (lacks o C B) a j i e m g)
      (λ g. let q : i ≡ j = omega arith in rw q f))

  pub reached_clear : (j : ℕ) → reached o C B j ≡ true → first (lacks o C B) (first_line (line_block j)) j ≡ j
  unfolding reached
  reached_clear j t = eqb-true _ _ t

  pub clear_reached : (i j : ℕ) → first_line i ≤ j → j < first_line (i + 1) → first (lacks o C B) (first_line i) j ≡ j → reached o C B j ≡ true
  unfolding reached
  clear_reached i j l u e = let q : i ≡ line_block j = omega arith in eq-eqb _ _ (rw q at e)

  -- the first line of a block
  pub reached_first : (j : ℕ) → line_code j ≡ 1 → reached o C B j ≡ true
  unfolding reached
  reached_first j e =
      let q : first_line (line_block j) ≡ j = omega arith in
      rw q (eq-eqb _ _ (first_end (lacks o C B) j j (omega arith)))

  -- the lines behind it
  reached_on : (j : ℕ) → line_code j < LINES → reached o C B j ≡ true → lacks o C B j ≡ false → reached o C B (j + 1) ≡ true
  reached_on j h t f =
      clear_reached (line_block j) (j + 1) (omega arith) (omega arith) (clear_next (first_line (line_block j)) j (omega arith) (reached_clear j t) f)

  reached_lacks : (j : ℕ) → line_code j < LINES → lacks o C B j ≡ true → reached o C B (j + 1) ≡ false
  unfolding reached
  reached_lacks j h t =
      let q : line_block (j + 1) ≡ line_block j = omega arith in
      let m : first (lacks o C B) (first_line (line_block j)) (j + 1) ≤ j = first_to (lacks o C B) (first_line (line_block j)) (j + 1) j (omega arith) (omega arith) t in
      rw q (ne_eqb (first (lacks o C B) (first_line (line_block j)) (j + 1)) (j + 1) (λ e. absurd (omega arith)))

  reached_off : (j : ℕ) → line_code j < LINES → reached o C B j ≡ false → reached o C B (j + 1) ≡ false
  unfolding reached
  reached_off j h f =
      let a = first_line (line_block j) in
      let q : line_block (j + 1) ≡ line_block j = omega arith in
      let d = eqb-false (first (lacks o C B) a j) j f in
      let m : first (lacks o C B) a j < j = omega (arith, d, first_high (lacks o C B) a j (omega arith)) in
      let e : first (lacks o C B) a (j + 1) ≡ first (lacks o C B) a j = first_more (lacks o C B) a j (j + 1) m (omega arith) in
      rw q (ne_eqb (first (lacks o C B) a (j + 1)) (j + 1) (λ g. absurd (omega arith)))

  pub reached_next : (j : ℕ) → reached o C B (j + 1) ≡ (eqb (line_code j) LINES || (reached o C B j && not (lacks o C B j)))
  reached_next j = by-lt (line_code j) LINES
      (λ h. rw (ne_eqb (line_code j) LINES (λ e. absurd (omega arith))) (by-test (reached o C B j)
      (λ t. by-test (lacks o C B j)
      (λ s. rw (t, s) (reached_lacks j h s))
      (λ s. rw (t, s) (reached_on j h t s)))
      (λ f. rw f (reached_off j h f))))
      (λ h. let e : line_code j ≡ LINES = omega arith in rw (eq-eqb (line_code j) LINES e) (reached_first (j + 1) (omega arith)))

  -- a line that is placed
  pub placed_is : (j : ℕ) → labelled B j ≡ true → reached o C B j ≡ true → is_placed o C B j ≡ has_symbol o C B j
  unfolding is_placed
  placed_is j t s = rw (t, s)

  pub placed_not : (j : ℕ) → (labelled B j && reached o C B j) ≡ false → is_placed o C B j ≡ false
  unfolding is_placed
  placed_not j f = by-test (labelled B j)
      (λ t. by-test (reached o C B j) (λ s. both (rw (t, s)) f) (λ s. rw (t, s)))
      (λ t. rw t)

  pub placed_labelled : (j : ℕ) → is_placed o C B j ≡ true → labelled B j ≡ true
  unfolding is_placed
  placed_labelled j t = (and_parts (labelled B j) _ t).0

  pub placed_reached : (j : ℕ) → is_placed o C B j ≡ true → reached o C B j ≡ true
  unfolding is_placed
  placed_reached j t = (and_parts (reached o C B j) _ (and_parts (labelled B j) _ t).1).0

  pub placed_present : (j : ℕ) → is_placed o C B j ≡ true → has_symbol o C B j ≡ true
  unfolding is_placed
  placed_present j t = (and_parts (reached o C B j) _ (and_parts (labelled B j) _ t).1).1

  pub placed_symbol : (j : ℕ) → is_placed o C B j ≡ true → label_symbol o C B j < symbol_count o C
  unfolding has_symbol
  placed_symbol j t = ltb-true _ _ (placed_present j t)

  pub placed_has : (j : ℕ) → is_placed o C B j ≡ true → lacks o C B j ≡ false
  placed_has j t = lacks_labelled j (placed_labelled j t) ∙ ap not (placed_present j t)

  -- a labelled line that is reached and not placed lacks its symbol
  pub unplaced_lacks : (j : ℕ) → labelled B j ≡ true → reached o C B j ≡ true → is_placed o C B j ≡ false → lacks o C B j ≡ true
  unplaced_lacks j t s f = lacks_labelled j t ∙ ap not (sym (placed_is j t s) ∙ f)

  -- ---- the place of a line

  pub place_yes : (j : ℕ) → is_placed o C B j ≡ true → place_of o C B j ≡ record { taken = true; at = label_value o C B j }
  unfolding place_of
  place_yes j t = rw t

  pub place_no : (j : ℕ) → is_placed o C B j ≡ false → place_of o C B j ≡ nowhere
  unfolding place_of
  place_no j f = rw f

  pub place_taken : (j : ℕ) → (place_of o C B j).taken ≡ is_placed o C B j
  place_taken j = by-test (is_placed o C B j)
      (λ t. rw (place_yes j t, t))
      (λ f. rw (place_no j f, f))

  pub length_places : length (places_of o C B) ≡ line_count B
  unfolding places_of
  length_places = select_all_length (place_of o C B) (line_count B)

  pub places_at : (j : ℕ) → j < line_count B → get_or (places_of o C B) j nowhere ≡ place_of o C B j
  unfolding places_of
  places_at j h = select_all_at (place_of o C B) j (line_count B) nowhere h

  pub taken_placed : (j : ℕ) → j < line_count B → taken (places_of o C B) j ≡ is_placed o C B j
  unfolding taken
  taken_placed j h = ap (λ (p : Place). p.taken) (places_at j h) ∙ place_taken j

  pub place_value : (j : ℕ) → j < line_count B → is_placed o C B j ≡ true → place (places_of o C B) j ≡ label_value o C B j
  unfolding place
  place_value j h t = ap (λ (p : Place). p.at) (places_at j h ∙ place_yes j t)

  pub places_small : ((i : ℕ) → get_or C i 0 < 256) → (j : ℕ) → place (places_of o C B) j < 2 ^ 32
  unfolding place
  places_small small j = by-lt j (line_count B)
      (λ h. by-test (is_placed o C B j)
      (λ t.
      let e : place (places_of o C B) j ≡ label_value o C B j = place_value j h t in
      omega (arith, e, value_lt small j))
      (λ f.
      let e : place (places_of o C B) j ≡ 0 = ap (λ (p : Place). p.at) (places_at j h ∙ place_no j f) in
      omega (arith, e)))
      (λ h.
      let e : place (places_of o C B) j ≡ 0 = ap (λ (p : Place). p.at) (get_or-eq_default (places_of o C B) nowhere {n = j} (rw length_places h)) in
      omega (arith, e))

-- ---- in a list of places

pub taken_inside : (P : List Place) (j : ℕ) → taken P j ≡ true → j < length P
unfolding taken
taken_inside P j t = by-lt j (length P)
    (λ h. h)
    (λ h. both t (ap (λ (p : Place). p.taken) (get_or-eq_default P nowhere {n = j} h)))

module _ (P : List Place) (B : List ℕ) where
  pub untaken_yes : (j : ℕ) → labelled B j ≡ true → taken P j ≡ false → untaken P B j ≡ true
  unfolding untaken
  untaken_yes j t f = rw (t, f)

  pub untaken_taken : (j : ℕ) → taken P j ≡ true → untaken P B j ≡ false
  unfolding untaken
  untaken_taken j t = rw t (and-false (labelled B j))

  pub untaken_plain : (j : ℕ) → labelled B j ≡ false → untaken P B j ≡ false
  unfolding untaken
  untaken_plain j f = rw f

  -- no line in [a, j) has a label and no span
  pub clear_after : (a j : ℕ) → a ≤ j → first (untaken P B) a j ≡ j → untaken P B j ≡ false → first (untaken P B) a (j + 1) ≡ j + 1
  clear_after a j l e f = first_none (untaken P B) a (j + 1) (omega arith) (λ i m u. by-lt i j
      (λ g. none_first (untaken P B) a j i e m g)
      (λ g. let q : i ≡ j = omega arith in rw q f))

  -- ---- blocks that stay on

  pub live_clear : (i : ℕ) → first (untaken P B) (first_line i) (first_line (i + 1)) ≡ first_line (i + 1) → live P B i ≡ true
  unfolding live
  live_clear i e = eq-eqb _ _ e

  pub live_not : (i j : ℕ) → first_line i ≤ j → j < first_line (i + 1) → untaken P B j ≡ true → live P B i ≡ false
  unfolding live
  live_not i j l u t =
      let m : first (untaken P B) (first_line i) (first_line (i + 1)) ≤ j = first_to (untaken P B) (first_line i) (first_line (i + 1)) j l u t in
      ne_eqb (first (untaken P B) (first_line i) (first_line (i + 1))) (first_line (i + 1)) (λ e. absurd (omega arith))

  -- each of its lines that has a label is taken
  pub live_taken : (i j : ℕ) → live P B i ≡ true → line_block j ≡ i → labelled B j ≡ true → taken P j ≡ true
  unfolding live
  live_taken i j t e s = by-test (taken P j)
      (λ y. y)
      (λ f. both (untaken_yes j s f) (none_first (untaken P B) (first_line i) (first_line (i + 1)) j (eqb-true _ _ t) (omega arith) (omega arith)))

  -- ---- ends of sections

  pub end_none : (c : ℕ) → end_at P B 0 c ≡ 0
  unfolding end_at
  end_none c = refl

  pub end_same : (j c : ℕ) → (taken P j && eqb (line_code j) c) ≡ false → end_at P B (j + 1) c ≡ end_at P B j c
  unfolding end_at
  end_same j c f = rw (add-one j, f)

  pub end_other : (j c : ℕ) → (line_code j ≡ c → ⊥) → end_at P B (j + 1) c ≡ end_at P B j c
  end_other j c d = end_same j c (rw (ne_eqb (line_code j) c d) (and-false (taken P j)))

  pub end_off : (j c : ℕ) → taken P j ≡ false → end_at P B (j + 1) c ≡ end_at P B j c
  end_off j c f = end_same j c (rw f)

  pub end_moved : (j : ℕ) → taken P j ≡ true → end_at P B (j + 1) (line_code j) ≡ place P j + span_size B j
  unfolding end_at
  end_moved j t = rw (add-one j, t, eq-eqb (line_code j) (line_code j) refl)

-- ---- where 8 and 9 have passed

module _ (P : List Place) (B : List ℕ) (f : Fitting P B) where
  pub taken_line : (j : ℕ) → taken P j ≡ true → j < line_count B
  taken_line j t = omega (arith, taken_inside P j t, f.many)

  -- the ends of a section ascend
  end_step : (j c : ℕ) → end_at P B j c ≤ end_at P B (j + 1) c
  end_step j c = by-test (taken P j && eqb (line_code j) c)
      (λ t.
      let r = and_parts (taken P j) _ t in
      let e : line_code j ≡ c = eqb-true _ _ r.1 in
      rw (← e) (omega (arith, f.behind j r.0, end_moved P B j r.0)))
      (λ n. rw (end_same P B j c n) (omega arith))

  pub ends_mono : (i j c : ℕ) → i ≤ j → end_at P B i c ≤ end_at P B j c
  ends_mono i zero c l = let e : i ≡ 0 = omega arith in rw e (omega arith)
  ends_mono i (suc j) c l = by-lt j i
      (λ g. let e : i ≡ suc j = omega arith in rw e (omega arith))
      (λ g. rw (← add-one j) (omega (arith, ends_mono i j c g, end_step j c)))

  -- spans of one section do not overlap, and stand in the order of their lines
  pub ends_ascend : (i j : ℕ) → i < j → taken P i ≡ true → taken P j ≡ true → line_code i ≡ line_code j → place P i + span_size B i ≤ place P j
  ends_ascend i j l t s e =
      let m : end_at P B (i + 1) (line_code i) ≤ end_at P B j (line_code i) = ends_mono (i + 1) j (line_code i) (omega arith) in
      let b : end_at P B j (line_code i) ≤ place P j = rw e (f.behind j s) in
      omega (arith, end_moved P B i t)

  -- the last end of a section is behind every span of it
  pub span_below : (i n : ℕ) → i < n → taken P i ≡ true → place P i + span_size B i ≤ end_at P B n (line_code i)
  span_below i n l t = omega (arith, end_moved P B i t, ends_mono (i + 1) n (line_code i) (omega arith))

-- ---- document 01's words for a block that stays on: none of its labels is absent

module _ (o : ByteOrder) (C B : List ℕ) (i : ℕ) (h : i < block_count B) where
  line_inside : (j : ℕ) → j < first_line (i + 1) → j < line_count B
  line_inside j u = omega arith

  -- where no line before j in the block lacks its symbol, line j has a label and no span exactly where it lacks its symbol
  untaken_lacks : (j : ℕ) → first_line i ≤ j → j < first_line (i + 1) → first (lacks o C B) (first_line i) j ≡ j → untaken (places_of o C B) B j ≡ lacks o C B j
  untaken_lacks j l u e =
      let r : reached o C B j ≡ true = clear_reached o C B i j l u e in
      by-test (labelled B j)
      (λ t. by-test (is_placed o C B j)
      (λ y. untaken_taken (places_of o C B) B j (taken_placed o C B j (line_inside j u) ∙ y) ∙ sym (placed_has o C B j y))
      (λ n. untaken_yes (places_of o C B) B j t (taken_placed o C B j (line_inside j u) ∙ n) ∙ sym (unplaced_lacks o C B j t r n)))
      (λ n. untaken_plain (places_of o C B) B j n ∙ sym (lacks_plain o C B j n))

  -- so the first such line is the first that lacks it
  same_first : (n j : ℕ) → first_line i ≤ j → j + n ≡ first_line (i + 1) → first (lacks o C B) (first_line i) j ≡ j
      → first (untaken (places_of o C B) B) j (first_line (i + 1)) ≡ first (lacks o C B) j (first_line (i + 1))
  same_first zero j l e c =
      first_end (untaken (places_of o C B) B) j (first_line (i + 1)) (omega arith) ∙ sym (first_end (lacks o C B) j (first_line (i + 1)) (omega arith))
  same_first (suc n) j l e c =
      let u : j < first_line (i + 1) = omega arith in
      let q : untaken (places_of o C B) B j ≡ lacks o C B j = untaken_lacks j l u c in
      by-test (lacks o C B j)
      (λ t. first_here (untaken (places_of o C B) B) j (first_line (i + 1)) u (q ∙ t) ∙ sym (first_here (lacks o C B) j (first_line (i + 1)) u t))
      (λ f.
      first_next (untaken (places_of o C B) B) j (first_line (i + 1)) u (q ∙ f)
      ∙ same_first n (j + 1) (omega arith) (omega arith) (clear_next o C B (first_line i) j l c f)
      ∙ sym (first_next (lacks o C B) j (first_line (i + 1)) u f))

  pub live_present : live (places_of o C B) B i ≡ eqb (first (lacks o C B) (first_line i) (first_line (i + 1))) (first_line (i + 1))
  unfolding live
  live_present =
      ap (λ (n : ℕ). eqb n (first_line (i + 1)))
      (same_first LINES (first_line i) (omega arith) (omega arith) (first_end (lacks o C B) (first_line i) (first_line i) (omega arith)))
