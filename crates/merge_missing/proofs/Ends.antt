-- The laws of refusal 11 by ends: the end of a code's last span tells whether there is a span and whether one passes an offset, because spans are not empty and ascend;
-- and what each way through a test says. Assumes nothing.
use Rattle.std.specs.Prelude.{None, Some, Option}
use Prim.Native.Nat.{ℕ, ◌+◌, ◌-◌, ◌%◌, ◌≤◌, ◌<◌}
use mathlib.Core.Path.{◌≡◌, refl, sym, ap, ◌∙◌}
use mathlib.Core.Bool.{Bool, true, false, not, ◌&&◌, ◌||◌}
use mathlib.Core.List.{List}
use native.Mathlib.Omega.{arith}
use lib.ListN.{length, get_or}
use lib.Dec.{eqb, ltb}
use borrow.Author.Tests.{lt-ltb, le-ltb, eq-eqb, ne_eqb, eqb-true}
use Rattle.base_lists.specs.Ranges.{first}
use Rattle.base_lists.proofs.Ranges.{by-test, by-lt, first_here, first_end, first_ext, some_no, some_yes}
use Rattle.base_fields.specs.declared.ByteOrder.{ByteOrder}
use Rattle.base_scope.specs.Codes.{TEXT, LATE_RODATA, REGINFO, CODES, holds_bytes, leaves_out, is_late_target, target_code, line_code}
use Rattle.base_scope.specs.Refusals.{MISSING_SECTION, found_below}
use Rattle.base_answers.specs.Answers.{COMPILED, ASSEMBLED}
use Rattle.base_answers.specs.Verdicts.{Passed, Refused, Verdict, finding_verdict}
use Rattle.base_answers.proofs.Verdicts.{also_passed, also_refused}
use Rattle.elf_readers.specs.Readers.{has_code, coded_contents}
use Rattle.elf_check.specs.declared.View.{View}
use Rattle.elf_check.specs.View.{view_of, has_in}
use Rattle.elf_check.proofs.Views.{view_has}
use Rattle.blocks_places.specs.Lines.{line_count, span_size}
use Rattle.blocks_places.specs.Places.{Place, taken, place}
use Rattle.blocks_places.specs.Faults.{Fitting}
use Rattle.blocks_spans.specs.declared.Span.{Span}
use Rattle.blocks_spans.specs.Spans.{is_span, spans_of, span_at, span_end, last_end, Ascends}
use Rattle.blocks_spans.specs.Table.{span_ends}
use Rattle.blocks_spans.proofs.Spans.{spans_ascend, span_is, span_not, span_off, span_some, span_last, last_zero}
use Rattle.blocks_spans.proofs.Table.{ends_code}
use Rattle.late_length.specs.Late.{has_late_step}
use Rattle.merge_missing.specs.Missing.{goes_to, is_target, passes, has_span, is_uneven, has_uneven, is_lacking, wanted_c, missing_c, wanted_a, missing_a, lowest_code, missing_verdict}
use Rattle.merge_missing.specs.Ends.{lacking_by, asked_c, asked_a, missing_by, AtCode}

-- a test of two things, as it was read
pub both_read : (x h k b v : Bool) → x ≡ (h && b) → h ≡ k → x ≡ v → (k && b) ≡ v
both_read x h k b v e f t = ap (λ (y : Bool). y && b) (sym f) ∙ sym e ∙ t

-- ---- ends

-- an end that is not zero is that of a span
last_some : (L : List Span) → 0 < last_end L → 0 < length L
last_some L h = by-lt 0 (length L) (λ g. g) (λ g. absurd (omega (arith, last_zero L g)))

last_behind : (n : ℕ) (L : List Span) → n < last_end L → ltb n (span_end (span_at L (length L - 1))) ≡ true
unfolding last_end
last_behind n L g = lt-ltb _ _ g

module _ (L : List Span) (a : Ascends L) where
  -- a span passes an offset where the last one does
  pub passes_last : (n : ℕ) → ltb n (last_end L) ≡ passes L n
  unfolding passes
  passes_last n = by-lt n (last_end L)
      (λ g.
      let h : 0 < length L = last_some L (omega arith) in
      lt-ltb n (last_end L) g ∙ sym (some_yes (λ r. ltb n (span_end (span_at L r))) 0 (length L) (length L - 1) (omega arith) (omega arith) (last_behind n L g)))
      (λ g.
      let none : (r : ℕ) → 0 ≤ r → r < length L → ltb n (span_end (span_at L r)) ≡ false = λ r l u. le-ltb n (span_end (span_at L r)) (omega (arith, span_last L a r u)) in
      le-ltb n (last_end L) g ∙ sym (some_no (λ r. ltb n (span_end (span_at L r))) 0 (length L) (omega arith) none))

  -- there is a span where the last end is not zero: no span is empty
  pub some_last : ltb 0 (last_end L) ≡ ltb 0 (length L)
  some_last = by-lt 0 (last_end L)
      (λ g. lt-ltb _ _ g ∙ sym (lt-ltb _ _ (last_some L g)))
      (λ g. by-lt 0 (length L)
      (λ h. absurd (omega (arith, span_last L a 0 h, span_some L a 0 h)))
      (λ h. le-ltb _ _ g ∙ sym (le-ltb _ _ h)))

-- ---- A's sections that hold bytes

module _ (o : ByteOrder) (A : List ℕ) (c : ℕ) where
  pub goes_read : (a t : ℕ) (w : List ℕ) → w ≡ coded_contents o A a → t ≡ target_code a → (ltb 0 (length w) && eqb t c) ≡ goes_to o A c a
  unfolding goes_to
  goes_read a t w e f = rw (e, f)

  pub target_here : (a : ℕ) → TEXT ≤ a → a ≤ LATE_RODATA → goes_to o A c a ≡ true → true ≡ is_target o A c
  unfolding is_target
  target_here a l h t = sym (some_yes (goes_to o A c) TEXT (LATE_RODATA + 1) a l (omega arith) t)

  pub target_none : (a : ℕ) → LATE_RODATA < a → first (goes_to o A c) TEXT (LATE_RODATA + 1) ≡ first (goes_to o A c) a (LATE_RODATA + 1) → false ≡ is_target o A c
  unfolding is_target
  target_none a h e =
      let f : first (goes_to o A c) a (LATE_RODATA + 1) ≡ a = first_end (goes_to o A c) a (LATE_RODATA + 1) (omega arith) in
      sym (le-ltb (first (goes_to o A c) TEXT (LATE_RODATA + 1)) (LATE_RODATA + 1) (omega arith))

-- ---- what is asked

module _ (o : ByteOrder) (A : List ℕ) (end : ℕ) (late : Bool) (c : ℕ) where
  pub asked_span : (holds_bytes c && ltb 0 end) ≡ true → true ≡ asked_c o A end late c
  unfolding asked_c
  asked_span t = rw t

  module _ (f : (holds_bytes c && ltb 0 end) ≡ false) where
    pub asked_late : (is_late_target c && late) ≡ true → true ≡ asked_c o A end late c
    unfolding asked_c
    asked_late t = rw (f, t)

    pub asked_target : (is_late_target c && late) ≡ false → is_target o A c ≡ asked_c o A end late c
    unfolding asked_c
    asked_target g = rw (f, g)

module _ (v : View) (end : ℕ) (late : Bool) (c : ℕ) where
  pub asked_some : 0 < end → true ≡ asked_a v end late c
  unfolding asked_a
  asked_some h = rw (lt-ltb 0 end h)

  module _ (h : end ≤ 0) where
    pub asked_rodata : c ≡ LATE_RODATA → late ≡ asked_a v end late c
    unfolding asked_a
    asked_rodata e = rw (le-ltb 0 end h, e) (sym (or_off late))
      where
        or_off : (b : Bool) → (b || false) ≡ b
        or_off true = refl
        or_off false = refl

    module _ (d : c ≡ LATE_RODATA → ⊥) where
      pub asked_reginfo : c ≡ REGINFO → has_in v c ≡ asked_a v end late c
      unfolding asked_a
      asked_reginfo e = rw (le-ltb 0 end h, ne_eqb _ _ d, eq-eqb _ _ e)

      pub asked_none : (c ≡ REGINFO → ⊥) → false ≡ asked_a v end late c
      unfolding asked_a
      asked_none g = rw (le-ltb 0 end h, ne_eqb _ _ d, ne_eqb _ _ g)

module _ (o : ByteOrder) (F : List ℕ) (end : ℕ) (asked : Bool) (c : ℕ) (w : List ℕ) (is : w ≡ coded_contents o F c) where
  pub lacking_short : (holds_bytes c && ltb (length w) end) ≡ true → true ≡ lacking_by o F end asked c
  unfolding lacking_by
  lacking_short t = rw (← is, t)

  module _ (f : (holds_bytes c && ltb (length w) end) ≡ false) where
    pub lacking_there : has_code o F c ≡ true → false ≡ lacking_by o F end asked c
    unfolding lacking_by
    lacking_there t = rw (← is, f, t)

    pub lacking_absent : has_code o F c ≡ false → asked ≡ lacking_by o F end asked c
    unfolding lacking_by
    lacking_absent t = rw (← is, f, t)

-- ---- places and sizes

module _ (P : List Place) (B : List ℕ) (c : ℕ) where
  pub uneven_code : (j x : ℕ) → x ≡ line_code j → (x ≡ c → ⊥) → false ≡ is_uneven P B c j
  unfolding is_uneven
  uneven_code j x e d = rw (span_not P B c j (λ q. d (e ∙ q)))

  pub uneven_off : (j : ℕ) → taken P j ≡ false → false ≡ is_uneven P B c j
  unfolding is_uneven
  uneven_off j f = rw (span_off P B c j f)

  pub uneven_taken : (j x y z : ℕ) → x ≡ line_code j → x ≡ c → taken P j ≡ true → y ≡ place P j → z ≡ span_size B j
      → not (eqb (y % 4) 0 && eqb (z % 4) 0) ≡ is_uneven P B c j
  unfolding is_uneven
  uneven_taken j x y z e q t p s = rw (p, s, span_is P B c j t (sym e ∙ q))

  pub uneven_here : (j : ℕ) → leaves_out c ≡ true → j < line_count B → is_uneven P B c j ≡ true → true ≡ has_uneven P B c
  unfolding has_uneven
  uneven_here j l h t = rw (l, some_yes (is_uneven P B c) 0 (line_count B) j (omega arith) h t)

  pub uneven_none : (j : ℕ) → leaves_out c ≡ true → line_count B ≤ j → first (is_uneven P B c) 0 (line_count B) ≡ first (is_uneven P B c) j (line_count B) → false ≡ has_uneven P B c
  unfolding has_uneven
  uneven_none j l h e =
      let f : first (is_uneven P B c) j (line_count B) ≡ j = first_end (is_uneven P B c) j (line_count B) h in
      rw (l, le-ltb (first (is_uneven P B c) 0 (line_count B)) (line_count B) (omega arith))

  pub uneven_kept : leaves_out c ≡ false → false ≡ has_uneven P B c
  unfolding has_uneven
  uneven_kept f = rw f

-- ---- the codes at fault, from their ends

module _ (P : List Place) (B : List ℕ) (f : Fitting P B) (end : ℕ) (late : Bool) (c : ℕ) (w : AtCode P B end late c) where
  some_end : ltb 0 end ≡ has_span P B c
  unfolding has_span
  some_end = ap (ltb 0) w.ends ∙ some_last (spans_of P B c) (spans_ascend P B f c)

  pub wanted_c_lem : (o : ByteOrder) (C A : List ℕ) → asked_c o A end late c ≡ wanted_c o C A P B c
  unfolding asked_c wanted_c
  wanted_c_lem o C A = rw (some_end, w.runs)

  pub wanted_a_lem : (o : ByteOrder) (C A : List ℕ) (v : View) → v ≡ view_of o C → asked_a v end late c ≡ wanted_a o C A P B c
  unfolding asked_a wanted_a
  wanted_a_lem o C A v is = rw (some_end, w.runs, view_has o C v is c w.low w.high) (same_code (eqb c LATE_RODATA && has_late_step P B))
    where
      same_code : (b : Bool) → (has_span P B c || (b || (eqb c REGINFO && has_code o C c))) ≡ (has_span P B c || (b || (eqb c REGINFO && has_code o C REGINFO)))
      same_code b = by-test (eqb c REGINFO) (λ t. ap (λ (x : ℕ). has_span P B c || (b || (eqb c REGINFO && has_code o C x))) (eqb-true c REGINFO t)) (λ n. rw n)

  pub lacking_is : (o : ByteOrder) (F : List ℕ) (asked : Bool) → lacking_by o F end asked c ≡ is_lacking P B o F asked c
  unfolding lacking_by is_lacking
  lacking_is o F asked = rw (w.ends, passes_last (spans_of P B c) (spans_ascend P B f c) (length (coded_contents o F c)))

  module _ (o : ByteOrder) (C A : List ℕ) (x : Bool) (is : x ≡ asked_c o A end late c) (y : Bool) (so : y ≡ lacking_by o C end x c) where
    lacking_c : y ≡ is_lacking P B o C (wanted_c o C A P B c) c
    lacking_c = so ∙ ap (λ (b : Bool). lacking_by o C end b c) (is ∙ wanted_c_lem o C A) ∙ lacking_is o C (wanted_c o C A P B c)

    pub missing_lacking : y ≡ true → true ≡ missing_c o C A P B c
    unfolding missing_c
    missing_lacking t = rw (← lacking_c, t)

    pub missing_uneven : y ≡ false → (z : Bool) → z ≡ has_uneven P B c → z ≡ missing_c o C A P B c
    unfolding missing_c
    missing_uneven g z e = rw (← lacking_c, g) e

-- ---- the lowest code

found_at : (n c i : ℕ) → c < n → i ≡ c → Some c ≡ found_below n i
unfolding found_below
found_at n c i h e = rw (e, lt-ltb c n h)

found_none : (n i : ℕ) → n ≤ i → None ≡ found_below n i
unfolding found_below
found_none n i h = rw (le-ltb i n h)

module _ (p : ℕ → Bool) (c : ℕ) (h : first p TEXT (CODES + 1) ≡ first p c (CODES + 1)) where
  pub lowest_here : c ≤ CODES → p c ≡ true → Some c ≡ lowest_code p
  unfolding lowest_code
  lowest_here l t = found_at (CODES + 1) c _ (omega arith) (h ∙ first_here p c (CODES + 1) (omega arith) t)

  pub lowest_none : CODES < c → None ≡ lowest_code p
  unfolding lowest_code
  lowest_none l = found_none (CODES + 1) _ (omega (arith, h, first_end p c (CODES + 1) (omega arith)))

pub lowest_ext : (p q : ℕ → Bool) → ((c : ℕ) → 1 ≤ c → c ≤ CODES → p c ≡ q c) → lowest_code p ≡ lowest_code q
unfolding lowest_code
lowest_ext p q e = ap (found_below (CODES + 1)) (first_ext p q TEXT (CODES + 1) (λ c l u. e c l (omega arith)))

pub missing_a_lem : (o : ByteOrder) (C A : List ℕ) (P : List Place) (B : List ℕ) → Fitting P B → (v : View) → v ≡ view_of o C
    → (ends : List ℕ) → ends ≡ span_ends P B → (late : Bool) → late ≡ has_late_step P B → lowest_code (missing_by o A v ends late) ≡ lowest_code (missing_a o C A P B)
unfolding missing_by missing_a
missing_a_lem o C A P B f v is ends e late r = lowest_ext _ _ (λ c l u.
    let w : AtCode P B (get_or ends c 0) late c = record { low = l; high = u; ends = (ends_code P B ends c e u).1; runs = r } in
    ap (λ (b : Bool). lacking_by o A (get_or ends c 0) b c) (wanted_a_lem P B f (get_or ends c 0) late c w o C A v is)
    ∙ lacking_is P B f (get_or ends c 0) late c w o A (wanted_a o C A P B c))

-- ---- the answer

module _ (o : ByteOrder) (C A : List ℕ) (P : List Place) (B : List ℕ) (f : Option ℕ) (is : f ≡ lowest_code (missing_c o C A P B)) (v : Verdict)
    (so : v ≡ finding_verdict MISSING_SECTION COMPILED f) where
  first_is : v ≡ finding_verdict MISSING_SECTION COMPILED (lowest_code (missing_c o C A P B))
  first_is = so ∙ ap (finding_verdict MISSING_SECTION COMPILED) is

  pub verdict_c : (n x p : ℕ) → v ≡ Refused n x p → v ≡ missing_verdict o C A P B
  unfolding missing_verdict
  verdict_c n x p e = e ∙ sym (also_refused _ _ n x p (sym first_is ∙ e))

  pub verdict_a : v ≡ Passed → (g : Option ℕ) → g ≡ lowest_code (missing_a o C A P B) → (w : Verdict) → w ≡ finding_verdict MISSING_SECTION ASSEMBLED g → w ≡ missing_verdict o C A P B
  unfolding missing_verdict
  verdict_a e g at w q = q ∙ ap (finding_verdict MISSING_SECTION ASSEMBLED) at ∙ sym (also_passed _ _ (sym first_is ∙ e))
