-- Searches, counts, sums and selections over the indices below n. Every loop of the project equals one of these, and the laws in proofs/Ranges.antt
-- are stated once, over any test and any element.
use Rattle.std.specs.Prelude.{ℕ, zero, suc, ◌+◌, ◌-◌, min, ◌≤◌, ◌<◌, ◌≡◌, Bool, true, false, cond, List, [], ◌∷◌, ◌++◌}

-- of k indices from i on, the first that passes the test; i + k where none does
unfoldable pub first_from : (ℕ → Bool) → ℕ → ℕ → ℕ
first_from p i zero = i
first_from p i (suc k) = cond (p i) i (first_from p (i + 1) k)

-- the first index in [i, n) that passes the test; n where none does
abbrev pub first : (ℕ → Bool) → ℕ → ℕ → ℕ
first p i n = first_from p i (n - i)

-- one past the last index below n that passes the test; 0 where none does
unfoldable pub past_last : (ℕ → Bool) → ℕ → ℕ
past_last p zero = 0
past_last p (suc n) = cond (p n) (suc n) (past_last p n)

-- the least of the values v i at the indices below n that pass the test; d where none passes or none is less
unfoldable pub least : (ℕ → ℕ) → (ℕ → Bool) → ℕ → ℕ → ℕ
least v p d zero = d
least v p d (suc n) = cond (p n) (min (v n) (least v p d n)) (least v p d n)

-- how many indices below n pass the test
unfoldable pub count : (ℕ → Bool) → ℕ → ℕ
count p zero = 0
count p (suc n) = cond (p n) (count p n + 1) (count p n)

-- the sum of f over the indices below n
unfoldable pub sum : (ℕ → ℕ) → ℕ → ℕ
sum f zero = 0
sum f (suc n) = sum f n + f n

-- one of two lists, by a test
abbrev pub pick_list : {A : Type 0} → Bool → List A → List A → List A
pick_list true a b = a
pick_list false a b = b

-- the lists that f gives at the indices below n that pass the test, appended in order
unfoldable pub gather : {A : Type 0} → (ℕ → Bool) → (ℕ → List A) → ℕ → List A
gather p f zero = []
gather p f (suc n) = pick_list (p n) (gather p f n ++ f n) (gather p f n)

-- what f gives at the indices below n that pass the test, in order
unfoldable pub select : {A : Type 0} → (ℕ → Bool) → (ℕ → A) → ℕ → List A
select p f n = gather p (λ i. f i ∷ []) n

-- what it is to be the first index in [i, n) that passes the test
pub record IsFirst (p : ℕ → Bool) (i n k : ℕ) : Type 0 where
  pub low : i ≤ k
  pub high : k ≤ n
  pub below : (j : ℕ) → i ≤ j → j < k → p j ≡ false
  pub here : k < n → p k ≡ true
