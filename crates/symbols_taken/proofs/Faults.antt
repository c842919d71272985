-- 15 and 16 as the code finds them: what each way through the tests of a symbol says, and what the end of each search. Assumes nothing.
use Rattle.std.specs.Prelude.{None, Some, Option}
use Prim.Native.Nat.{ℕ, ◌+◌, ◌≤◌, ◌<◌}
use mathlib.Core.Path.{◌≡◌, refl, sym, ap, ◌∙◌}
use mathlib.Core.Bool.{Bool, true, false, not, ◌&&◌, ◌||◌}
use mathlib.Core.List.{List}
use native.Mathlib.Omega.{arith}
use lib.Dec.{eqb}
use borrow.Author.Tests.{lt-ltb, le-ltb, eq-eqb, ne_eqb}
use Rattle.base_lists.specs.Ranges.{first}
use Rattle.base_lists.proofs.Ranges.{by-test}
use Rattle.base_fields.specs.declared.ByteOrder.{ByteOrder}
use Rattle.base_scope.specs.Codes.{LATE_RODATA, CODES, target_code}
use Rattle.base_scope.specs.Elf.{SHN_UNDEF, SHN_ABS}
use Rattle.base_scope.specs.Refusals.{SYMBOL_SECTION, LATE_SYMBOL, found_below}
use Rattle.base_answers.specs.Answers.{ASSEMBLED}
use Rattle.base_answers.specs.Verdicts.{Passed, Refused, Verdict, finding_verdict}
use Rattle.base_answers.proofs.Verdicts.{also_passed, also_refused}
use Rattle.elf_records.specs.declared.symbol.SymbolEntry.{SymbolEntry}
use Rattle.elf_symbols.specs.Symbols.{symbol_count, symbol}
use Rattle.merge_inputs.specs.of_elf_check.declared.View.{View}
use Rattle.merge_inputs.specs.of_elf_check.View.{view_of, has_in}
use Rattle.late_lookups.specs.Fields.{offset_at}
use Rattle.symbols_taken.specs.Used.{code_of, is_used}
use Rattle.symbols_taken.specs.Taken.{is_helper, is_placed_in, is_taken_a, symbol_code}
use Rattle.symbols_taken.specs.Code.{code_in, is_source_in, has_target_in, lacks_target_in, is_homeless_in, homeless_in, is_moved_in, is_unmoved_value, is_unmoved_in, unmoved_in, taken_in}
use Rattle.symbols_taken.proofs.Sections.{code_is}
use Rattle.symbols_taken.proofs.Symbols.{taken_plain}

-- ---- refusal 15

-- the target of a code is a code
pub target_low : (c : ℕ) → 1 ≤ c → c ≤ CODES → (1 ≤ target_code c) × (target_code c ≤ CODES)
unfolding target_code
target_low c l h = by-test (eqb c LATE_RODATA) (λ t. rw t (omega arith, omega arith)) (λ f. rw f (l, h))

module _ (w v : View) (s : ℕ) where
  pub target_read : (c t : ℕ) (r : Bool) → c ≡ code_in v s → c ≤ LATE_RODATA → t ≡ target_code c → r ≡ has_in w t → r ≡ has_target_in w v s
  unfolding has_target_in is_source_in
  target_read c t r e h f is = rw (← e, lt-ltb c (LATE_RODATA + 1) (omega arith), is, f)

  pub target_none : (c : ℕ) → c ≡ code_in v s → LATE_RODATA < c → false ≡ has_target_in w v s
  unfolding has_target_in is_source_in
  target_none c e h = rw (← e, le-ltb c (LATE_RODATA + 1) (omega arith))

  pub lacks_undefined : s ≡ SHN_UNDEF → false ≡ lacks_target_in w v s
  unfolding lacks_target_in is_placed_in
  lacks_undefined e = rw (eq-eqb s SHN_UNDEF e)

  module _ (n : s ≡ SHN_UNDEF → ⊥) where
    pub lacks_absolute : s ≡ SHN_ABS → false ≡ lacks_target_in w v s
    unfolding lacks_target_in is_placed_in
    lacks_absolute e = rw (ne_eqb s SHN_UNDEF n, eq-eqb s SHN_ABS e)

    pub lacks_read : (h : Bool) → (s ≡ SHN_ABS → ⊥) → h ≡ has_target_in w v s → not h ≡ lacks_target_in w v s
    unfolding lacks_target_in is_placed_in
    lacks_read h m e = rw (ne_eqb s SHN_UNDEF n, ne_eqb s SHN_ABS m, e)

and_no : (b : Bool) → (b && false) ≡ false
and_no true = refl
and_no false = refl

or_no : (b : Bool) → (b || false) ≡ b
or_no true = refl
or_no false = refl

module _ (w v : View) (o : ByteOrder) (A : List ℕ) (k : ℕ) where
  pub homeless_taken : (e : SymbolEntry) (r : Bool) → is_taken_a o A k ≡ true → e ≡ symbol o A k → r ≡ lacks_target_in w v e.st_shndx → r ≡ is_homeless_in w v o A k
  unfolding is_homeless_in
  homeless_taken e r t is lacks = rw (lacks, is, t, taken_plain o A k t, and_no (is_used o A k)) (sym (or_no (lacks_target_in w v (symbol o A k).st_shndx)))

  module _ (f : is_taken_a o A k ≡ false) where
    pub homeless_used : (h : Bool) → is_used o A k ≡ true → h ≡ is_helper o A k → h ≡ is_homeless_in w v o A k
    unfolding is_homeless_in
    homeless_used h u e = rw (f, u, e)

    pub homeless_not : is_used o A k ≡ false → false ≡ is_homeless_in w v o A k
    unfolding is_homeless_in
    homeless_not u = rw (f, u)

-- a search for a fault, by its end
found_at : (p : ℕ → Bool) (n i : ℕ) → i < n → first p 0 n ≡ i → Some i ≡ found_below n (first p 0 n)
unfolding found_below
found_at p n i h e = rw (e, lt-ltb i n h)

found_none : (p : ℕ → Bool) (n : ℕ) → first p 0 n ≡ n → None ≡ found_below n (first p 0 n)
unfolding found_below
found_none p n e = rw (e, le-ltb n n (omega arith))

module _ (w v : View) (o : ByteOrder) (A : List ℕ) (n : ℕ) (many : n ≡ symbol_count o A) where
  pub homeless_at_lem : (i : ℕ) → i < n → first (is_homeless_in w v o A) 0 n ≡ i → Some i ≡ found_below (symbol_count o A) (homeless_in w v o A)
  unfolding homeless_in
  homeless_at_lem i h e = rw (← many) (found_at (is_homeless_in w v o A) n i h e)

  pub homeless_none : first (is_homeless_in w v o A) 0 n ≡ n → None ≡ found_below (symbol_count o A) (homeless_in w v o A)
  unfolding homeless_in
  homeless_none e = rw (← many) (found_none (is_homeless_in w v o A) n e)

-- ---- refusal 16

module _ (runs : Bool) (late : List ℕ) (n x : ℕ) where
  pub moved_yes : (r : Option ℕ) (p : ℕ) → runs ≡ true → r ≡ offset_at late n x → r ≡ Some p → true ≡ is_moved_in runs late n x
  unfolding is_moved_in
  moved_yes r p t e m = rw (t, ← e, m)

  pub moved_no : (r : Option ℕ) → runs ≡ true → r ≡ offset_at late n x → r ≡ None → false ≡ is_moved_in runs late n x
  unfolding is_moved_in
  moved_no r t e m = rw (t, ← e, m)

  pub moved_idle : runs ≡ false → false ≡ is_moved_in runs late n x
  unfolding is_moved_in
  moved_idle f = rw f

  pub value_zero : x ≡ 0 → true ≡ is_unmoved_value runs late n x
  unfolding is_unmoved_value
  value_zero e = rw (eq-eqb x 0 e)

  pub value_read : (m : Bool) → (x ≡ 0 → ⊥) → m ≡ is_moved_in runs late n x → not m ≡ is_unmoved_value runs late n x
  unfolding is_unmoved_value
  value_read m z e = rw (ne_eqb x 0 z, e)

module _ (o : ByteOrder) (A : List ℕ) (runs : Bool) (late : List ℕ) (n k : ℕ) where
  -- b says whether the symbol's section is .late_rodata
  module _ (v : View) (is : v ≡ view_of o A) (e : SymbolEntry) (b : Bool) (entry : e ≡ symbol o A k) (told : b ≡ eqb (code_in v e.st_shndx) LATE_RODATA) where
    late_read : b ≡ eqb (symbol_code o A k) LATE_RODATA
    unfolding symbol_code
    late_read = told ∙ ap (λ (x : ℕ). eqb x LATE_RODATA) (code_is o A v is e.st_shndx ∙ ap (λ (x : SymbolEntry). code_of o A x.st_shndx) entry)

    pub unmoved_other : b ≡ false → false ≡ is_unmoved_in o A runs late n k
    unfolding is_unmoved_in
    unmoved_other f = rw (← late_read, f, and_no (is_taken_a o A k))

    pub unmoved_read : (r : Bool) → b ≡ true → is_taken_a o A k ≡ true → r ≡ is_unmoved_value runs late n e.st_value → r ≡ is_unmoved_in o A runs late n k
    unfolding is_unmoved_in
    unmoved_read r y t f = rw (t, ← late_read, y, f, entry)

  pub unmoved_left : is_taken_a o A k ≡ false → false ≡ is_unmoved_in o A runs late n k
  unfolding is_unmoved_in
  unmoved_left f = rw f

module _ (o : ByteOrder) (A : List ℕ) (runs : Bool) (late : List ℕ) (blocks n : ℕ) (many : n ≡ symbol_count o A) where
  pub unmoved_at_lem : (i : ℕ) → i < n → first (is_unmoved_in o A runs late blocks) 0 n ≡ i → Some i ≡ found_below (symbol_count o A) (unmoved_in o A runs late blocks)
  unfolding unmoved_in
  unmoved_at_lem i h e = rw (← many) (found_at (is_unmoved_in o A runs late blocks) n i h e)

  pub unmoved_none : first (is_unmoved_in o A runs late blocks) 0 n ≡ n → None ≡ found_below (symbol_count o A) (unmoved_in o A runs late blocks)
  unfolding unmoved_in
  unmoved_none e = rw (← many) (found_none (is_unmoved_in o A runs late blocks) n e)

-- ---- refusals 15 and 16

module _ (w v : View) (o : ByteOrder) (A : List ℕ) (runs : Bool) (late : List ℕ) (n : ℕ)
    (f : Option ℕ) (homeless : f ≡ found_below (symbol_count o A) (homeless_in w v o A)) (x : Verdict) (is : x ≡ finding_verdict SYMBOL_SECTION ASSEMBLED f) where
  pub verdict_homeless : (a b c : ℕ) → x ≡ Refused a b c → x ≡ taken_in w v o A runs late n
  unfolding taken_in
  verdict_homeless a b c e =
      e ∙ sym (also_refused (finding_verdict SYMBOL_SECTION ASSEMBLED (found_below (symbol_count o A) (homeless_in w v o A))) _ a b c (rw (← homeless) (sym is ∙ e)))

  pub verdict_unmoved : x ≡ Passed → (g : Option ℕ) → g ≡ found_below (symbol_count o A) (unmoved_in o A runs late n)
      → (y : Verdict) → y ≡ finding_verdict LATE_SYMBOL ASSEMBLED g → y ≡ taken_in w v o A runs late n
  unfolding taken_in
  verdict_unmoved e g unmoved y to =
      to ∙ ap (finding_verdict LATE_SYMBOL ASSEMBLED) unmoved
      ∙ sym (also_passed (finding_verdict SYMBOL_SECTION ASSEMBLED (found_below (symbol_count o A) (homeless_in w v o A))) _ (rw (← homeless) (sym is ∙ e)))
