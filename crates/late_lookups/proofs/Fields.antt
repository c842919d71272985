-- The laws of the table's fields: each ascends over all rows, so the row of a number is found by binary search, and it is the only one whose range holds the number;
-- and the answers in each of their ways. Assumes nothing.
use Rattle.std.specs.Prelude.{None, Some}
use Prim.Native.Nat.{ℕ, zero, suc, ◌+◌, ◌-◌, ◌*◌, ◌/◌, ◌%◌, ◌≤◌, ◌<◌}
use mathlib.Core.Path.{◌≡◌, refl, sym, ◌∙◌}
use mathlib.Core.Bool.{Bool, true, false}
use mathlib.Core.List.{List}
use native.Mathlib.Numerals.{add-one}
use native.Mathlib.Omega.{arith}
use lib.ListN.{length}
use lib.Dec.{leb, eqb}
use borrow.Author.Tests.{lt-ltb, le-ltb, le-leb, lt-leb, ltb-true, leb-true, eqb-true}
use Rattle.base_lists.specs.Ranges.{first}
use Rattle.base_lists.proofs.Ranges.{by-lt, and_parts, first_is, first_unique}
use Rattle.base_lists.proofs.Halves.{GoesOn}
use Rattle.base_fields.specs.declared.ByteOrder.TheVariants.{Big}
use Rattle.base_fields.specs.Numbers.{number}
use Rattle.base_scope.specs.Limits.{LATE_ROW, LATE_WORDS}
use Rattle.late_lookups.specs.Fields.{late_field, late_word, row_dummies, row_bytes, is_past, row_past, place_in_row, is_start, offset_at, is_table_word, jump_at, AtRow, LateRows}

module _ (late : List ℕ) where
  pub field_read : (f i r : ℕ) → r ≡ number Big 4 late (LATE_ROW * i + 4 * f) → r ≡ late_field late f i
  unfolding late_field
  field_read f i r e = e

  pub word_read : (m r : ℕ) → r ≡ number Big 3 late (LATE_WORDS + 3 * m) → r ≡ late_word late m
  unfolding late_word
  word_read m r e = e

  pub dummies_read : (i a b : ℕ) → a ≡ late_field late 1 i → b ≡ late_field late 1 (i + 1) → b - a ≡ row_dummies late i
  unfolding row_dummies
  dummies_read i a b e q = rw (e, q)

  pub table_read : (i a b k : ℕ) → a ≡ late_field late 0 i → b ≡ late_field late 0 (i + 1) → k ≡ row_dummies late i → b - a - 4 * k ≡ row_bytes late i
  unfolding row_bytes
  table_read i a b k e q u = rw (e, q, u)

  -- ---- the answers

  pub place_word : (i x k r : ℕ) → k ≡ (x - late_field late 0 i) / 4 → k < row_dummies late i → r ≡ late_word late (late_field late 1 i + k) → r ≡ place_in_row late i x
  unfolding place_in_row
  place_word i x k r e h q = q ∙ rw (← e, lt-ltb k (row_dummies late i) h)

  pub place_rest : (i x k : ℕ) → k ≡ (x - late_field late 0 i) / 4 → row_dummies late i ≤ k → late_field late 2 (i + 1) - (late_field late 0 (i + 1) - x) ≡ place_in_row late i x
  unfolding place_in_row
  place_rest i x k e h = rw (← e, le-ltb k (row_dummies late i) h)

  pub start_low : (i x : ℕ) → x < late_field late 0 i → false ≡ is_start late i x
  unfolding is_start
  start_low i x h = rw (lt-leb (late_field late 0 i) x h)

  pub start_is : (i x a : ℕ) → a ≡ late_field late 0 i → a ≤ x → eqb ((x - a) % 4) 0 ≡ is_start late i x
  unfolding is_start
  start_is i x a e h = rw (← e, le-leb a x h)

  pub start_past : (i x : ℕ) → is_start late i x ≡ true → (late_field late 0 i ≤ x) × ((x - late_field late 0 i) % 4 ≡ 0)
  unfolding is_start
  start_past i x t = let r = and_parts (leb (late_field late 0 i) x) _ t in (leb-true _ _ r.0, eqb-true _ _ r.1)

  pub table_low : (i x t e : ℕ) → t ≡ row_bytes late i → e ≡ late_field late 2 (i + 1) → x + t < e → false ≡ is_table_word late i x
  unfolding is_table_word
  table_low i x t e p q h = rw (← p, ← q, lt-leb e (x + t) h)

  pub table_is : (i x t e : ℕ) → t ≡ row_bytes late i → e ≡ late_field late 2 (i + 1) → e ≤ x + t → eqb ((x + t - e) % 4) 0 ≡ is_table_word late i x
  unfolding is_table_word
  table_is i x t e p q h = rw (← p, ← q, le-leb e (x + t) h)

  pub table_past : (i x : ℕ) → is_table_word late i x ≡ true
      → (late_field late 2 (i + 1) ≤ x + row_bytes late i) × ((x + row_bytes late i - late_field late 2 (i + 1)) % 4 ≡ 0)
  unfolding is_table_word
  table_past i x t = let r = and_parts (leb (late_field late 2 (i + 1)) (x + row_bytes late i)) _ t in (leb-true _ _ r.0, eqb-true _ _ r.1)

  module _ (n x : ℕ) where
    pub offset_none : n ≤ row_past late 0 n x → None ≡ offset_at late n x
    unfolding offset_at
    offset_none h = rw (le-ltb (row_past late 0 n x) n h)

    pub offset_odd : (i : ℕ) → i ≡ row_past late 0 n x → i < n → is_start late i x ≡ false → None ≡ offset_at late n x
    unfolding offset_at
    offset_odd i e h f = rw (← e, lt-ltb i n h, f)

    pub offset_is : (i p : ℕ) → i ≡ row_past late 0 n x → i < n → is_start late i x ≡ true → p ≡ place_in_row late i x → Some p ≡ offset_at late n x
    unfolding offset_at
    offset_is i p e h t q = rw (← e, lt-ltb i n h, t, q)

    pub jump_none : n ≤ row_past late 2 n x → false ≡ jump_at late n x
    unfolding jump_at
    jump_none h = rw (le-ltb (row_past late 2 n x) n h)

    pub jump_is : (i : ℕ) (r : Bool) → i ≡ row_past late 2 n x → i < n → r ≡ is_table_word late i x → r ≡ jump_at late n x
    unfolding jump_at
    jump_is i r e h q = q ∙ rw (← e, lt-ltb i n h)

-- ---- binary search

module _ (late : List ℕ) (n : ℕ) (s : LateRows late n) (f : ℕ) (g : f < 3) where
  pub field_mono : (i j : ℕ) → i ≤ j → j ≤ n → late_field late f i ≤ late_field late f j
  field_mono i zero h l = let e : i ≡ 0 = omega arith in rw e (omega arith)
  field_mono i (suc j) h l = by-lt j i
      (λ u. let e : i ≡ suc j = omega arith in rw e (omega arith))
      (λ u. rw (← add-one j) (omega (arith, field_mono i j u (omega arith), (s.rows j (omega arith)).rises f g)))

  module _ (x : ℕ) where
    past_true : (i : ℕ) → is_past late f x i ≡ true → x < late_field late f (i + 1)
    unfolding is_past
    past_true i t = ltb-true _ _ t

    pub past_yes : (i : ℕ) → x < late_field late f (i + 1) → is_past late f x i ≡ true
    unfolding is_past
    past_yes i h = lt-ltb _ _ h

    pub past_no : (i : ℕ) → late_field late f (i + 1) ≤ x → is_past late f x i ≡ false
    unfolding is_past
    past_no i h = le-ltb _ _ h

    pub first_past_read : (r : ℕ) → r ≡ first (is_past late f x) 0 n → r ≡ row_past late f n x
    unfolding row_past
    first_past_read r e = e

    -- what is found: x lies before the next row's field
    pub first_past_after : row_past late f n x < n → x < late_field late f (row_past late f n x + 1)
    unfolding row_past
    first_past_after h = past_true _ ((first_is (is_past late f x) 0 n (omega arith)).here h)

    -- a row behind one that is past x is past x
    pub past_on : GoesOn (is_past late f x) n
    past_on i j l h t = past_yes j (omega (arith, past_true i t, field_mono (i + 1) (j + 1) (omega arith) (omega arith)))

    -- the row whose range holds x
    pub first_past_is : (j : ℕ) → j < n → late_field late f j ≤ x → x < late_field late f (j + 1) → row_past late f n x ≡ j
    unfolding row_past
    first_past_is j h l u =
        first_unique (is_past late f x) 0 n _ j (first_is (is_past late f x) 0 n (omega arith))
        (record {
          low = omega arith;
          high = omega arith;
          below = λ i a b. past_no i (omega (arith, field_mono (i + 1) j (omega arith) (omega arith)));
          here = λ a. past_yes j u;
        })

-- ---- the numbers of a row

module _ (late : List ℕ) (i : ℕ) (s : AtRow late i) where
  pub row_words : (k : ℕ) → k < row_dummies late i → LATE_WORDS + 3 * (late_field late 1 i + k) + 3 ≤ length late
  unfolding row_dummies
  row_words k l = omega (arith, s.words)

  -- an offset behind the dummies of its block is no further from the end of its part than the jump table is long
  pub row_rest : (x : ℕ) → row_dummies late i ≤ (x - late_field late 0 i) / 4 → late_field late 0 i ≤ x → late_field late 0 (i + 1) - x ≤ late_field late 2 (i + 1)
  row_rest x l u = omega (arith, s.tables, row_table_is)
    where
      row_table_is : row_bytes late i ≡ late_field late 0 (i + 1) - late_field late 0 i - 4 * row_dummies late i
      row_table_is = sym (table_read late i (late_field late 0 i) (late_field late 0 (i + 1)) (row_dummies late i) refl refl refl)
