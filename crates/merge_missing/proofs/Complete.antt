-- What refusal 11 leaves true, derived from its definition: no code of C and none of A is at fault, so no cause of any code holds. Assumes nothing.
use Rattle.std.specs.Prelude.{None}
use Prim.Native.Nat.{ℕ, ◌+◌, ◌%◌, ◌≤◌, ◌<◌}
use mathlib.Core.Path.{◌≡◌, refl, sym, ap, ◌∙◌}
use mathlib.Core.Bool.{Bool, true, false, not, ◌&&◌, ◌||◌}
use mathlib.Core.List.{List}
use native.Mathlib.Omega.{arith}
use lib.ListN.{length, take, drop}
use lib.Dec.{eqb, ltb}
use borrow.Author.Tests.{lt-ltb, ltb-true, eq-eqb, eqb-true, not-false}
use Rattle.base_lists.specs.Ranges.{first, count}
use Rattle.base_lists.proofs.Ranges.{by-test, both, by-lt, and_parts, first_high, none_first, or_parts, no_some}
use Rattle.base_fields.specs.declared.ByteOrder.{ByteOrder}
use Rattle.base_scope.specs.Codes.{TEXT, LATE_RODATA, REGINFO, CODES, LINES, holds_bytes, leaves_out, is_late_target, target_code, line_code}
use Rattle.base_scope.specs.Refusals.{MISSING_SECTION}
use Rattle.base_scope.proofs.Codes.{past_holds, past_leaves, past_late}
use Rattle.base_scope.proofs.Refusals.{found_clear}
use Rattle.base_answers.specs.Answers.{COMPILED, ASSEMBLED}
use Rattle.base_answers.specs.Verdicts.{Passed, finding_verdict}
use Rattle.base_answers.proofs.Verdicts.{also_parts, finding_passed}
use Rattle.elf_readers.specs.Readers.{has_code, coded_contents}
use Rattle.blocks_places.specs.Lines.{line_count, span_size}
use Rattle.blocks_places.specs.Places.{Place, place}
use Rattle.blocks_spans.specs.declared.Span.{Span}
use Rattle.blocks_spans.specs.Spans.{is_span, span_of, spans_of, span_at, span_end, EndsBy}
use Rattle.blocks_spans.specs.Copied.{copied}
use Rattle.blocks_spans.proofs.Spans.{span_code, span_line, line_span}
use Rattle.blocks_spans.proofs.Copied.{copied_under}
use Rattle.late_length.specs.Late.{has_late_step}
use Rattle.merge_missing.specs.Missing.{goes_to, is_target, passes, has_span, is_uneven, has_uneven, is_lacking, wanted_c, missing_c, wanted_a, missing_a, lowest_code, missing_verdict}
use Rattle.merge_missing.specs.Complete.{Complete}
use Rattle.merge_missing.proofs.Ends.{target_here}

and_off : (a b : Bool) → (a && b) ≡ false → a ≡ true → b ≡ false
and_off a b f t = rw t at f

-- a code whose column holds is one
by_column : (column : ℕ → Bool) → ((c : ℕ) → (1 ≤ c → CODES < c) → column c ≡ false) → (c : ℕ) → column c ≡ true → (1 ≤ c) × (c ≤ CODES)
by_column column none c t = by-lt c 1
    (λ h. absurd (both_sides (none c (λ l. absurd (omega arith)))))
    (λ h. by-lt CODES c (λ g. absurd (both_sides (none c (λ l. g)))) (λ g. (h, g)))
  where
    both_sides : column c ≡ false → ⊥
    both_sides f = let z : ◌≡◌ {A = ℕ} 0 1 = both t f in omega arith

-- ---- no code is at fault

pub lowest_clear : (p : ℕ → Bool) → lowest_code p ≡ None → (c : ℕ) → 1 ≤ c → c ≤ CODES → p c ≡ false
unfolding lowest_code
lowest_clear p e c l h =
    let g : CODES + 1 ≤ first p TEXT (CODES + 1) = found_clear (CODES + 1) (first p TEXT (CODES + 1)) e in
    let q : first p TEXT (CODES + 1) ≡ CODES + 1 = omega (arith, first_high p TEXT (CODES + 1) (omega arith)) in
    none_first p TEXT (CODES + 1) c q l (omega arith)

-- ---- what a cause that does not hold tells

-- a span that does not pass n ends there at the latest
not_passed : (L : List Span) (n : ℕ) → passes L n ≡ false → EndsBy L n
unfolding passes
not_passed L n f r h = by-lt n (span_end (span_at L r))
    (λ l. both (lt-ltb n (span_end (span_at L r)) l) (no_some (λ r. ltb n (span_end (span_at L r))) 0 (length L) r f (omega arith) h))
    (λ l. l)

-- a section that must be there and is not missing is there
wanted_there : (h w : Bool) → (not h && w) ≡ false → w ≡ true → h ≡ true
wanted_there true w f t = refl
wanted_there false w f t = both t f

module _ (P : List Place) (B : List ℕ) where
  module _ (o : ByteOrder) (F : List ℕ) (asked : Bool) (c : ℕ) (f : is_lacking P B o F asked c ≡ false) where
    parts : ((holds_bytes c && passes (spans_of P B c) (length (coded_contents o F c))) ≡ false) × ((not (has_code o F c) && asked) ≡ false)
    unfolding is_lacking
    parts = or_parts (holds_bytes c && passes (spans_of P B c) (length (coded_contents o F c))) _ f

    ends_by : holds_bytes c ≡ true → EndsBy (spans_of P B c) (length (coded_contents o F c))
    ends_by t = not_passed (spans_of P B c) _ (and_off (holds_bytes c) _ parts.0 t)

    got : asked ≡ true → has_code o F c ≡ true
    got t = wanted_there _ _ parts.1 t

  even_line : (c j : ℕ) → has_uneven P B c ≡ false → leaves_out c ≡ true → j < line_count B → is_span P B c j ≡ true → (place P j % 4 ≡ 0) × (span_size B j % 4 ≡ 0)
  unfolding has_uneven is_uneven
  even_line c j f l h t =
      let u = and_off (leaves_out c) _ f l in
      let g = and_off (is_span P B c j) _ (no_some (is_uneven P B c) 0 (line_count B) j u (omega arith) h) t in
      let r = and_parts (eqb (place P j % 4) 0) _ (not-false (eqb (place P j % 4) 0 && eqb (span_size B j % 4) 0) g) in
      (eqb-true _ _ r.0, eqb-true _ _ r.1)

  even_span : (c r : ℕ) → has_uneven P B c ≡ false → leaves_out c ≡ true → r < length (spans_of P B c)
      → ((span_at (spans_of P B c) r).place % 4 ≡ 0) × ((span_at (spans_of P B c) r).size % 4 ≡ 0)
  unfolding span_of
  even_span c r f l h =
      let j = span_line P B c r h in
      let e : span_at (spans_of P B c) r ≡ span_of P B j.0 = ap (span_at (spans_of P B c)) (sym j.3) ∙ line_span P B c j.0 j.1 j.2 in
      rw e (even_line c j.0 f l j.1 j.2)

  -- a code with a span is that of a line
  span_coded : (c : ℕ) → 0 < length (spans_of P B c) → (1 ≤ c) × (c ≤ CODES)
  span_coded c h =
      let j = span_line P B c 0 h in
      rw (← span_code P B c j.0 j.2) (omega arith, omega arith)

  spanned : (c : ℕ) → 0 < length (spans_of P B c) → has_span P B c ≡ true
  unfolding has_span
  spanned c h = lt-ltb _ _ h

target_range : (a : ℕ) → TEXT ≤ a → a ≤ LATE_RODATA → (1 ≤ target_code a) × (target_code a ≤ CODES)
unfolding target_code
target_range a l u = by-test (eqb a LATE_RODATA) (λ t. rw t (omega arith, omega arith)) (λ f. rw f (l, omega arith))

module _ (o : ByteOrder) (C A : List ℕ) (P : List Place) (B : List ℕ) (e : missing_verdict o C A P B ≡ Passed) where
  clear : (lowest_code (missing_c o C A P B) ≡ None) × (lowest_code (missing_a o C A P B) ≡ None)
  unfolding missing_verdict
  clear =
      let r = also_parts _ _ e in
      (finding_passed MISSING_SECTION COMPILED _ r.0, finding_passed MISSING_SECTION ASSEMBLED _ r.1)

  parts_c : (c : ℕ) → 1 ≤ c → c ≤ CODES → (is_lacking P B o C (wanted_c o C A P B c) c ≡ false) × (has_uneven P B c ≡ false)
  unfolding missing_c
  parts_c c l h = or_parts (is_lacking P B o C (wanted_c o C A P B c) c) _ (lowest_clear (missing_c o C A P B) clear.0 c l h)

  parts_a : (c : ℕ) → 1 ≤ c → c ≤ CODES → is_lacking P B o A (wanted_a o C A P B c) c ≡ false
  unfolding missing_a
  parts_a c l h = lowest_clear (missing_a o C A P B) clear.1 c l h

  got_c : (c : ℕ) → 1 ≤ c → c ≤ CODES → wanted_c o C A P B c ≡ true → has_code o C c ≡ true
  got_c c l h t = got P B o C (wanted_c o C A P B c) c (parts_c c l h).0 t

  got_a : (c : ℕ) → 1 ≤ c → c ≤ CODES → wanted_a o C A P B c ≡ true → has_code o A c ≡ true
  got_a c l h t = got P B o A (wanted_a o C A P B c) c (parts_a c l h) t

  -- ---- the causes

  wants_span : (c : ℕ) → holds_bytes c ≡ true → has_span P B c ≡ true → wanted_c o C A P B c ≡ true
  unfolding wanted_c
  wants_span c t s = rw (t, s)

  or_right : (a b : Bool) → b ≡ true → (a || b) ≡ true
  or_right true b t = refl
  or_right false b t = t

  wants_late : (c : ℕ) → is_late_target c ≡ true → has_late_step P B ≡ true → wanted_c o C A P B c ≡ true
  unfolding wanted_c
  wants_late c t s = or_right (holds_bytes c && has_span P B c) _ (rw (t, s))

  wants_target : (a : ℕ) → TEXT ≤ a → a ≤ LATE_RODATA → 0 < length (coded_contents o A a) → wanted_c o C A P B (target_code a) ≡ true
  unfolding wanted_c goes_to
  wants_target a l u h =
      let g : goes_to o A (target_code a) a ≡ true = rw (lt-ltb 0 (length (coded_contents o A a)) h, eq-eqb (target_code a) (target_code a) refl) in
      let t : is_target o A (target_code a) ≡ true = sym (target_here o A (target_code a) a l u g) in
      or_right (holds_bytes (target_code a) && has_span P B (target_code a)) _ (or_right (is_late_target (target_code a) && has_late_step P B) _ t)

  wants_a : (c : ℕ) → has_span P B c ≡ true → wanted_a o C A P B c ≡ true
  unfolding wanted_a
  wants_a c t = rw t

  wants_source : has_late_step P B ≡ true → wanted_a o C A P B LATE_RODATA ≡ true
  unfolding wanted_a
  wants_source t = or_right (has_span P B LATE_RODATA) _ (rw t)

  wants_reginfo : has_code o C REGINFO ≡ true → wanted_a o C A P B REGINFO ≡ true
  unfolding wanted_a
  wants_reginfo t = or_right (has_span P B REGINFO) _ (rw t)

  pub complete_of : Complete o C A P B
  complete_of = record {
    compiled_ends = λ c t. let r = by_column holds_bytes past_holds c t in ends_by P B o C (wanted_c o C A P B c) c (parts_c c r.0 r.1).0 t;
    assembled_ends = λ c t. let r = by_column holds_bytes past_holds c t in ends_by P B o A (wanted_a o C A P B c) c (parts_a c r.0 r.1) t;
    compiled_span = λ c t h. let r = span_coded P B c h in got_c c r.0 r.1 (wants_span c t (spanned P B c h));
    assembled_span = λ c h. let r = span_coded P B c h in got_a c r.0 r.1 (wants_a c (spanned P B c h));
    words = λ c x t h. let r = span_coded P B c (omega arith) in even_span P B c x (parts_c c r.0 r.1).1 t h;
    late_target = λ t c y. let r = by_column is_late_target past_late c y in got_c c r.0 r.1 (wants_late c y t);
    late_source = λ t. got_a LATE_RODATA (omega arith) (omega arith) (wants_source t);
    reginfo = λ t. got_a REGINFO (omega arith) (omega arith) (wants_reginfo t);
    targets = λ a l u h. got_c (target_code a) (target_range a l u).0 (target_range a l u).1 (wants_target a l u h);
  }

-- so under a span outside .bss block copying writes A's bytes, whatever the width
pub complete_under : (o : ByteOrder) (C A : List ℕ) (P : List Place) (B : List ℕ) → Complete o C A P B → (c k w r : ℕ) → holds_bytes c ≡ true → r < length (spans_of P B c)
    → (span_at (spans_of P B c) r).place ≤ k → k + w ≤ span_end (span_at (spans_of P B c) r)
    → take w (drop k (copied (spans_of P B c) (coded_contents o C c) (coded_contents o A c))) ≡ take w (drop k (coded_contents o A c))
complete_under o C A P B m c k w r t h l n =
    copied_under (spans_of P B c) (coded_contents o C c) (coded_contents o A c) k w r h l n (m.compiled_ends c t r h) (m.assembled_ends c t r h)
