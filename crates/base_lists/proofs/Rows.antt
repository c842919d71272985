-- The laws of a search over pairs: what it tells of the pair that it finds, that it finds a pair that is the only one, and the order of pairs.
-- Assumes nothing.
use Prim.Native.Nat.{ℕ, ◌<◌}
use mathlib.Core.Path.{◌≡◌, sym}
use mathlib.Core.Logic.{◌⊎◌, inl, inr}
use mathlib.Core.Bool.{Bool, true, false}
use native.Mathlib.Omega.{arith}
use Rattle.base_lists.proofs.Ranges.{by-test, both, by-lt, first_ext, some_yes, some_no, some_hit, no_some}
use Rattle.base_lists.specs.Rows.{index_in, has_index, row_in, column_in, has_row}

module _ (p : ℕ → ℕ → Bool) (m : ℕ → ℕ) where
  -- ---- one row

  pub index_yes : (i k : ℕ) → k < m i → p i k ≡ true → has_index p m i ≡ true
  unfolding has_index index_in
  index_yes i k h t = some_yes (p i) 0 (m i) k (omega arith) h t

  pub index_none : (i : ℕ) → ((k : ℕ) → k < m i → p i k ≡ false) → has_index p m i ≡ false
  unfolding has_index index_in
  index_none i none = some_no (p i) 0 (m i) (omega arith) (λ k l h. none k h)

  pub none_index : (i k : ℕ) → has_index p m i ≡ false → k < m i → p i k ≡ false
  unfolding has_index index_in
  none_index i k f h = no_some (p i) 0 (m i) k f (omega arith) h

  pub index_hit : (i : ℕ) → has_index p m i ≡ true → (index_in p m i < m i) × (p i (index_in p m i) ≡ true)
  unfolding has_index index_in
  index_hit i t = some_hit (p i) 0 (m i) (omega arith) t

  -- ---- all rows

  pub row_yes : (n i k : ℕ) → i < n → k < m i → p i k ≡ true → has_row p m n ≡ true
  unfolding has_row row_in
  row_yes n i k h l t = some_yes (has_index p m) 0 n i (omega arith) h (index_yes i k l t)

  pub row_none : (n : ℕ) → ((i k : ℕ) → i < n → k < m i → p i k ≡ false) → has_row p m n ≡ false
  unfolding has_row row_in
  row_none n none = some_no (has_index p m) 0 n (omega arith) (λ i l h. index_none i (λ k g. none i k h g))

  -- no pair passes where no row is found
  pub none_row : (n i k : ℕ) → has_row p m n ≡ false → i < n → k < m i → p i k ≡ false
  none_row n i k f h l = by-test (p i k) (λ t. both (row_yes n i k h l t) f) (λ g. g)

-- what is known of the pair that is found
pub record Hit (p : ℕ → ℕ → Bool) (m : ℕ → ℕ) (n i k : ℕ) : Type 0 where
  pub row : i < n
  pub column : k < m i
  pub passes : p i k ≡ true

module _ (p : ℕ → ℕ → Bool) (m : ℕ → ℕ) (n : ℕ) where
  pub row_hit : has_row p m n ≡ true → Hit p m n (row_in p m n) (column_in p m n)
  unfolding has_row row_in column_in
  row_hit t =
      let h = some_hit (has_index p m) 0 n (omega arith) t in
      let r = index_hit p m (row_in p m n) h.1 in
      record { row = h.0; column = r.0; passes = r.1 }

  -- a pair that passes is found where no other does
  pub row_is : (i k : ℕ) → i < n → k < m i → p i k ≡ true → ((j l : ℕ) → Hit p m n j l → (j ≡ i) × (l ≡ k))
      → (row_in p m n ≡ i) × (column_in p m n ≡ k)
  row_is i k h l t only = only (row_in p m n) (column_in p m n) (row_hit (row_yes p m n i k h l t))

-- two tests that agree have the same first pair
module _ (p q : ℕ → ℕ → Bool) (m : ℕ → ℕ) (agree : (i k : ℕ) → p i k ≡ q i k) where
  pub index_same : (i : ℕ) → index_in p m i ≡ index_in q m i
  unfolding index_in
  index_same i = first_ext (p i) (q i) 0 (m i) (λ k l u. agree i k)

  pub has_index_same : (i : ℕ) → has_index p m i ≡ has_index q m i
  unfolding has_index
  has_index_same i = rw (index_same i)

  pub row_same : (n : ℕ) → row_in p m n ≡ row_in q m n
  unfolding row_in
  row_same n = first_ext (has_index p m) (has_index q m) 0 n (λ i l u. has_index_same i)

  pub column_same : (n : ℕ) → column_in p m n ≡ column_in q m n
  unfolding column_in
  column_same n = rw (row_same n) (index_same (row_in q m n))

  pub has_row_same : (n : ℕ) → has_row p m n ≡ has_row q m n
  unfolding has_row
  has_row_same n = rw (row_same n)

-- ---- the order of pairs

-- index k of row i comes before index l of row j
abbrev pub Before : ℕ → ℕ → ℕ → ℕ → Type 0
Before i k j l = (i < j) ⊎ ((i ≡ j) × (k < l))

pub by_order {ℓ} : {A : Type ℓ} (i k j l : ℕ) → (Before i k j l → A) → (Before j l i k → A) → (i ≡ j → k ≡ l → A) → A
by_order i k j l before after equal = by-lt i j
    (λ h. before (inl h))
    (λ h. by-lt j i
    (λ g. after (inl g))
    (λ g.
    let e : i ≡ j = omega arith in
    by-lt k l
    (λ u. before (inr (e, u)))
    (λ u. by-lt l k (λ v. after (inr (sym e, v))) (λ v. equal e (omega arith)))))
