-- Each string of the result's symbols reads back where an entry says that its name stands: C's where it was, A's behind C's strings, a static's behind both. Assumes nothing.
use Prim.Native.Nat.{ℕ, zero, suc, ◌+◌, ◌-◌, ◌/◌, ◌%◌, ◌≤◌, ◌<◌}
use mathlib.Core.Path.{◌≡◌, refl, sym, ap, ◌∙◌}
use mathlib.Core.Bool.{true}
use mathlib.Core.List.{List, [], ◌∷◌, ◌++◌, append_assoc}
use native.Mathlib.Numerals.{add-one}
use native.Mathlib.Nat.{add-zero}
use native.Mathlib.Omega.{arith}
use lib.Dec.{eqb, ltb}
use lib.ListN.{length, take, get_or, length-append, get_or-append}
use lib.Seq.{get_or-append-add, take-suc}
use Rattle.base_lists.specs.Ranges.{gather}
use Rattle.base_lists.specs.Strings.{name_at, has_end}
use Rattle.base_lists.proofs.Ranges.{by-test, by-lt, gather_zero, gather_yes, gather_split}
use Rattle.base_lists.proofs.Strings.{name_append, has_end_append, name_behind, has_end_behind, name_written_lem, has_end_written, name_nonzero}
use Rattle.base_fields.specs.declared.ByteOrder.{ByteOrder}
use Rattle.base_scope.specs.Text.{text}
use Rattle.base_text.specs.Decimals.{digits_text, decimal_text}
use Rattle.elf_symbols.specs.Symbols.{symbol_strings}
use Rattle.statics_table.specs.declared.Static.{Static}
use Rattle.statics_table.specs.Statics.{count_tail, name_head, working_name, written_name, written_length, names_length}
use Rattle.statics_table.proofs.Statics.{names_none, names_one}
use Rattle.statics_entry.specs.Entry.{nth}
use Rattle.statics_walk.specs.Sound.{StaticsSound}
use Rattle.statics_names.proofs.Names.{working_parts, written_parts}
use Rattle.write_strings.specs.Strings.{zero_ended, static_string, strings_below, result_strings}
use Rattle.write_strings.proofs.Strings.{string_parts}

-- ---- names without a zero byte

abbrev pub Full : List ℕ → Type 0
Full s = (i : ℕ) → i < length s → get_or s i 0 ≡ 0 → ⊥

full_none : Full []
full_none i h z = omega (arith, h)

full_append : (a b : List ℕ) → Full a → Full b → Full (a ++ b)
full_append a b f g i h z = by-lt i (length a)
    (λ l. f i l (sym (get_or-append a b 0 i l) ∙ z))
    (λ l.
    let e : length a + (i - length a) ≡ i = omega arith in
    let k : i - length a < length b = omega (arith, h, length-append a b) in
    g (i - length a) k (sym (get_or-append-add a b (i - length a) 0) ∙ ap (λ (j : ℕ). get_or (a ++ b) j 0) e ∙ z))

full_one : (x : ℕ) → 0 < x → Full (x ∷ [])
full_one x p zero h z = omega (arith, p, z)
full_one x p (suc i) h z = omega (arith, h)

full_digits : (k n : ℕ) → Full (digits_text k n)
unfolding digits_text
full_digits zero n = full_one (48 + n) (omega arith)
full_digits (suc k) n = by-test (ltb n 10)
    (λ t. rw t (full_one (48 + n) (omega arith)))
    (λ f. rw f (full_append (digits_text k (n / 10)) ((48 + n % 10) ∷ []) (full_digits k (n / 10)) (full_one (48 + n % 10) (omega arith))))

full_count : (n : ℕ) → Full (count_tail n)
unfolding count_tail text decimal_text
full_count n = by-test (eqb n 0)
    (λ t. rw t full_none)
    (λ f. rw f (full_append (58 ∷ []) (digits_text 9 n) (full_one 58 (omega arith)) (full_digits 9 n)))

module _ (mode : ℕ) (path C : List ℕ) (full : Full path) where
  full_head : Full (name_head mode path)
  unfolding name_head text
  full_head = by-test (eqb mode 3)
      (λ t. rw t (full_append path (58 ∷ []) full (full_one 58 (omega arith))))
      (λ f. rw f full_none)

  full_written : (s : Static) → Full (written_name mode path C s)
  full_written s =
      rw (← written_parts mode path C s, ← working_parts C s)
      (full_append (name_head mode path) (name_at C s.start ++ count_tail s.number) full_head
      (full_append (name_at C s.start) (count_tail s.number) (name_nonzero C s.start) (full_count s.number)))

-- ---- where a static's name stands among the statics' names

module _ (o : ByteOrder) (mode : ℕ) (path C : List ℕ) (S : List Static) (sound : StaticsSound o C (length (name_head mode path)) S) where
  abbrev head : ℕ
  head = length (name_head mode path)

  string_long : (k : ℕ) → k < length S → length (static_string mode path C (nth S k)) ≡ written_length head (nth S k)
  unfolding written_length
  string_long k h =
      let s : Static = nth S k in
      let a = ap length (sym (string_parts mode path C s)) ∙ length-append (written_name mode path C s) (0 ∷ []) in
      let b = ap length (sym (written_parts mode path C s)) ∙ length-append (name_head mode path) (working_name C s) in
      let c = ap length (sym (working_parts C s)) ∙ length-append (name_at C s.start) (count_tail s.number) in
      omega (arith, a, b, c, (sound.each k h).long)

  next_front : (k : ℕ) → k < length S → take (suc k) S ≡ take k S ++ (nth S k ∷ [])
  unfolding nth
  next_front k h = take-suc S k _ h

  pub strings_long : (k : ℕ) → k ≤ length S → length (strings_below mode path C (nth S) k) ≡ names_length head (take k S)
  unfolding strings_below
  strings_long zero h = ap length (gather_zero _ _) ∙ sym (names_none head)
  strings_long (suc k) h =
      let f : ℕ → List ℕ = λ j. static_string mode path C (nth S j) in
      let a = ap length (gather_yes (λ j. true) f k refl) ∙ length-append (gather (λ j. true) f k) (f k) in
      let b = strings_long k (omega arith) in
      let c = string_long k (omega arith) in
      let d = ap (names_length head) (ap (λ (j : ℕ). take j S) (add-one k) ∙ next_front k (omega arith)) ∙ names_one head (take k S) (nth S k) in
      rw (← add-one k) (omega (arith, a, b, c, d))

  -- it reads back where the static says, with a zero end
  module _ (full : Full path) (k : ℕ) (h : k < length S) where
    abbrev T : List ℕ
    T = strings_below mode path C (nth S) (length S)

    split : (r : List ℕ) × (T ≡ strings_below mode path C (nth S) k ++ (written_name mode path C (nth S k) ++ (0 ∷ r)))
    unfolding strings_below static_string zero_ended
    split =
        let f : ℕ → List ℕ = λ j. static_string mode path C (nth S j) in
        let g = gather_split (λ j. true) f k (length S) h refl in
        (g.0, g.1 ∙ ap (λ (x : List ℕ). gather (λ j. true) f k ++ x) (append_assoc (written_name mode path C (nth S k)) (0 ∷ []) g.0))

    place : (nth S k).offset ≡ length (strings_below mode path C (nth S) k) + 0
    place = sound.offsets k h ∙ sym (strings_long k (omega (arith, h))) ∙ sym (add-zero _)

    pub static_name : name_at T (nth S k).offset ≡ written_name mode path C (nth S k)
    static_name =
        let front : List ℕ = strings_below mode path C (nth S) k in
        let own : List ℕ = written_name mode path C (nth S k) in
        ap (λ (l : List ℕ). name_at l (nth S k).offset) split.1
        ∙ ap (name_at (front ++ (own ++ (0 ∷ split.0)))) place
        ∙ name_behind front (own ++ (0 ∷ split.0)) 0
        ∙ name_written_lem own split.0 (full_written mode path C full (nth S k))

    pub static_end : has_end T (nth S k).offset ≡ true
    static_end =
        let front : List ℕ = strings_below mode path C (nth S) k in
        let own : List ℕ = written_name mode path C (nth S k) in
        ap (λ (l : List ℕ). has_end l (nth S k).offset) split.1
        ∙ ap (has_end (front ++ (own ++ (0 ∷ split.0)))) place
        ∙ has_end_behind front (own ++ (0 ∷ split.0)) 0
        ∙ has_end_written own split.0 (full_written mode path C full (nth S k))

-- ---- in the strings of the result

module _ (o : ByteOrder) (C A : List ℕ) (mode : ℕ) (path : List ℕ) (S : List Static) where
  abbrev R : List ℕ
  R = result_strings o C A mode path S

  abbrev statics_part_lem : List ℕ
  statics_part_lem = strings_below mode path C (nth S) (length S)

  -- C's
  module _ (at : ℕ) (ended : has_end (symbol_strings o C) at ≡ true) where
    pub name_of_c : name_at R at ≡ name_at (symbol_strings o C) at
    unfolding result_strings
    name_of_c = name_append (symbol_strings o C) (symbol_strings o A ++ statics_part_lem) at ended

    pub end_of_c : has_end R at ≡ true
    unfolding result_strings
    end_of_c = has_end_append (symbol_strings o C) (symbol_strings o A ++ statics_part_lem) at ended

  -- A's, behind them
  module _ (at : ℕ) (ended : has_end (symbol_strings o A) at ≡ true) where
    pub name_of_a : name_at R (length (symbol_strings o C) + at) ≡ name_at (symbol_strings o A) at
    unfolding result_strings
    name_of_a = name_behind (symbol_strings o C) (symbol_strings o A ++ statics_part_lem) at ∙ name_append (symbol_strings o A) statics_part_lem at ended

    pub end_of_a : has_end R (length (symbol_strings o C) + at) ≡ true
    unfolding result_strings
    end_of_a = has_end_behind (symbol_strings o C) (symbol_strings o A ++ statics_part_lem) at ∙ has_end_append (symbol_strings o A) statics_part_lem at ended

  -- a static's, behind both
  module _ (sound : StaticsSound o C (length (name_head mode path)) S) (full : Full path) (k : ℕ) (h : k < length S) where
    pub name_of_static : name_at R (length (symbol_strings o C) + (length (symbol_strings o A) + (nth S k).offset)) ≡ written_name mode path C (nth S k)
    unfolding result_strings
    name_of_static =
        name_behind (symbol_strings o C) (symbol_strings o A ++ statics_part_lem) (length (symbol_strings o A) + (nth S k).offset)
        ∙ name_behind (symbol_strings o A) statics_part_lem (nth S k).offset
        ∙ static_name o mode path C S sound full k h

    pub end_of_static : has_end R (length (symbol_strings o C) + (length (symbol_strings o A) + (nth S k).offset)) ≡ true
    unfolding result_strings
    end_of_static =
        has_end_behind (symbol_strings o C) (symbol_strings o A ++ statics_part_lem) (length (symbol_strings o A) + (nth S k).offset)
        ∙ has_end_behind (symbol_strings o A) statics_part_lem (nth S k).offset
        ∙ static_end o mode path C S sound full k h
