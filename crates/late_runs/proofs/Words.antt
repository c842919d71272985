-- The laws of a block's words: they ascend, so the first that ends past x is found by binary search; and whether a dummy moved on, in each of its ways. Assumes nothing.
use Prim.Native.Nat.{ℕ, ◌+◌, ◌-◌, ◌*◌, ◌≤◌, ◌<◌}
use mathlib.Core.Path.{◌≡◌, ◌∙◌}
use mathlib.Core.Bool.{Bool, true, false, ◌&&◌}
use mathlib.Core.List.{List}
use native.Mathlib.Omega.{arith}
use lib.ListN.{length}
use lib.Dec.{eqb, ltb}
use borrow.Author.Tests.{lt-ltb, le-ltb, le-leb, lt-leb, ltb-true, eq-eqb, ne_eqb}
use Rattle.base_lists.specs.Ranges.{first}
use Rattle.base_lists.proofs.Ranges.{by-test, first_is, first_high}
use Rattle.base_lists.proofs.Halves.{GoesOn}
use Rattle.base_fields.specs.declared.ByteOrder.{ByteOrder}
use Rattle.base_fields.specs.declared.ByteOrder.TheVariants.{Big}
use Rattle.base_fields.specs.Numbers.{number}
use Rattle.late_lookups.specs.of_blocks_items.Items.{dummy_word}
use Rattle.late_dummies.specs.Dummies.{word_at}
use Rattle.base_scope.specs.Limits.{LATE_WORDS}
use Rattle.late_lookups.specs.Fields.{late_field, row_dummies, row_past}
use Rattle.late_lookups.proofs.Fields.{word_read}
use Rattle.late_runs.specs.declared.Run.TheVariants.{Kept, Late, Zeros}
use Rattle.late_runs.specs.Words.{dummy_place, word_past, dummy_over, Rising, moved_on, gap_to, word_run, table_run, row_run, run_read}

pub place_read : (late : List ℕ) (i k a r : ℕ) → a ≡ late_field late 1 i → r ≡ number Big 3 late (LATE_WORDS + 3 * (a + k)) → r ≡ dummy_place late i k
unfolding dummy_place
place_read late i k a r e q = rw (← e) (word_read late (a + k) r q)

module _ (late : List ℕ) (i x : ℕ) where
  past_true : (k : ℕ) → word_past late i x k ≡ true → x < dummy_place late i k + 4
  unfolding word_past
  past_true k t = ltb-true _ _ t

  pub past_yes : (k : ℕ) → x < dummy_place late i k + 4 → word_past late i x k ≡ true
  unfolding word_past
  past_yes k h = lt-ltb _ _ h

  pub past_no : (k : ℕ) → dummy_place late i k + 4 ≤ x → word_past late i x k ≡ false
  unfolding word_past
  past_no k h = le-ltb _ _ h

  pub over_high : dummy_over late i x ≤ row_dummies late i
  unfolding dummy_over
  over_high = first_high (word_past late i x) 0 (row_dummies late i) (omega arith)

  pub over_past : dummy_over late i x < row_dummies late i → x < dummy_place late i (dummy_over late i x) + 4
  unfolding dummy_over
  over_past h = past_true _ ((first_is (word_past late i x) 0 (row_dummies late i) (omega arith)).here h)

  -- a word behind one that ends past x ends past x
  pub past_on : (count : ℕ) → Rising late i → count ≡ row_dummies late i → GoesOn (word_past late i x) count
  past_on count s e k l h u t = past_yes l (omega (arith, past_true k t, s.rises k l h (omega arith)))

  pub over_read : (count r : ℕ) → count ≡ row_dummies late i → r ≡ first (word_past late i x) 0 count → r ≡ dummy_over late i x
  unfolding dummy_over
  over_read count r e q = rw (← e) q

-- ---- a dummy that moved on

module _ (o : ByteOrder) (B R : List ℕ) (i count k last p : ℕ) where
  pub on_later : (k ≡ 0 → ⊥) → false ≡ moved_on o B R i count k last p
  unfolding moved_on
  on_later d = rw (ne_eqb k 0 d)

  pub on_alone : count < 2 → false ≡ moved_on o B R i count k last p
  unfolding moved_on
  on_alone h = let g : count ≤ 1 = omega arith in rw (le-ltb 1 count g) (by-test (eqb k 0) (λ t. rw t) (λ t. rw t))

  pub on_near : p < last + 4 → false ≡ moved_on o B R i count k last p
  unfolding moved_on
  on_near h = rw (lt-leb (last + 4) p h) (by-test (eqb k 0 && ltb 1 count) (λ t. rw t) (λ t. rw t))

  pub on_is : (w : ℕ) (r : Bool) → k ≡ 0 → 2 ≤ count → last + 4 ≤ p → w ≡ dummy_word B i 0 → r ≡ word_at o R w (p - 4) → r ≡ moved_on o B R i count k last p
  unfolding moved_on
  on_is w r e h l q is = let g : 1 < count = omega arith in is ∙ rw (eq-eqb k 0 e, lt-ltb 1 count g, le-leb (last + 4) p l, q)

-- ---- the bytes before a place

module _ (shifted : Bool) (x p : ℕ) where
  pub gap_zeros : shifted ≡ true → p ≤ x + 4 → Zeros (p - x) ≡ gap_to shifted x p
  unfolding gap_to
  gap_zeros t h = rw (t, le-leb p (x + 4) h)

  pub gap_before : shifted ≡ true → x + 4 < p → Kept (p - 4 - x) ≡ gap_to shifted x p
  unfolding gap_to
  gap_before t h = rw (t, lt-leb p (x + 4) h)

  pub gap_kept : shifted ≡ false → Kept (p - x) ≡ gap_to shifted x p
  unfolding gap_to
  gap_kept f = rw f

-- ---- runs

module _ (o : ByteOrder) (B R late : List ℕ) (i count k x : ℕ) where
  pub run_in_word : (a p : ℕ) → a ≡ late_field late 0 i → p ≡ dummy_place late i k → p ≤ x → Late (a + 4 * k + (x - p)) (p + 4 - x) ≡ word_run o B R late i count k x
  unfolding word_run
  run_in_word a p e q h = rw (← e, ← q, le-leb p x h)

  pub run_before : (a p : ℕ) (b : Bool) → a ≡ late_field late 2 i → p ≡ dummy_place late i k → b ≡ moved_on o B R i count k a p → x < p
      → gap_to b x p ≡ word_run o B R late i count k x
  unfolding word_run
  run_before a p b e q t h = rw (← e, ← q, lt-leb p x h, t)

pub run_in_table : (late : List ℕ) (i x a b : ℕ) → a ≡ late_field late 0 (i + 1) → b ≡ late_field late 2 (i + 1) → Late (a - (b - x)) (b - x) ≡ table_run late i x
unfolding table_run
run_in_table late i x a b e q = rw (e, q)

-- the run of a row, and of a table, in each of its ways
module _ (o : ByteOrder) (B R late : List ℕ) (x : ℕ) where
  pub row_word : (i count k : ℕ) → count ≡ row_dummies late i → k ≡ dummy_over late i x → k < count → word_run o B R late i count k x ≡ row_run o B R late x i
  unfolding row_run
  row_word i count k e q h = rw (← e, ← q, lt-ltb k count h)

  pub row_table_lem : (i count k : ℕ) → count ≡ row_dummies late i → k ≡ dummy_over late i x → count ≤ k → table_run late i x ≡ row_run o B R late x i
  unfolding row_run
  row_table_lem i count k e q h = rw (← e, ← q, le-ltb k count h)

  pub read_none : (n : ℕ) → n ≤ row_past late 2 n x → Kept (length R - x) ≡ run_read o B R late x n
  unfolding run_read
  read_none n h = rw (le-ltb (row_past late 2 n x) n h)

  pub read_row : (n i : ℕ) → i ≡ row_past late 2 n x → i < n → row_run o B R late x i ≡ run_read o B R late x n
  unfolding run_read
  read_row n i e h = rw (← e, lt-ltb i n h)
