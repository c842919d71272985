-- The laws of searches, counts, sums and selections over the indices below n, over any test and any element: how one turn of a loop
-- changes each, what the result tells of the indices, and when two results are equal. Assumes nothing.
use Prim.Native.Nat.{ℕ, zero, suc, min, ◌+◌, ◌-◌, ◌*◌, ◌≤◌, ◌<◌}
use mathlib.Core.Path.{◌≡◌, refl, sym, ap, ◌∙◌}
use mathlib.Core.Bool.{Bool, true, false, cond, ◌&&◌, ◌||◌, true≢false}
use mathlib.Core.List.{List, [], ◌∷◌, ◌++◌, append-nil, append_assoc}
use native.Mathlib.Nat.{add-zero, add-suc, mul-zero, mul-suc, one-mul}
use native.Mathlib.Numerals.{add-one}
use native.Mathlib.Omega.{arith}
use lib.ListN.{length, take, drop, get_or, set, length-append}
use lib.Seq.{take-append_seam, drop-append_seam, append_snoc, drop-cons, get_or_at, set_at, ext_get_or}
use lib.Dec.{ltb}
use borrow.Author.Tests.{lt-ltb, le-ltb, ltb-true, ltb-false}
use Rattle.base_lists.specs.Ranges.{first_from, first, past_last, least, count, sum, gather, select, IsFirst}

-- ---- cases

-- by the two values of a test, each with its equation
pub by-test {ℓ} : {A : Type ℓ} (b : Bool) → (b ≡ true → A) → (b ≡ false → A) → A
by-test true yes-case no-case = yes-case refl
by-test false yes-case no-case = no-case refl

-- no test has both values
pub both {ℓ} : {A : Type ℓ} {b : Bool} → b ≡ true → b ≡ false → A
both t f = absurd (true≢false (sym t ∙ f))

-- both of two tests
pub and_parts : (a b : Bool) → (a && b) ≡ true → (a ≡ true) × (b ≡ true)
and_parts true b e = (refl, e)
and_parts false b e = (e, both e refl)

pub and_true : (a b : Bool) → a ≡ true → b ≡ true → (a && b) ≡ true
and_true a b e f = rw (e, f)

-- neither of two tests
pub or_parts : (a b : Bool) → (a || b) ≡ false → (a ≡ false) × (b ≡ false)
or_parts true b f = both refl f
or_parts false b f = (refl, f)

-- by the order of two numbers
pub by-lt {ℓ} : {A : Type ℓ} (a b : ℕ) → (a < b → A) → (b ≤ a → A) → A
by-lt a b less more = by-test (ltb a b) (λ t. less (ltb-true a b t)) (λ t. more (ltb-false a b t))

-- an index below n + 1 is below n, or is n
pub by_last {ℓ} : {A : Type ℓ} (j n : ℕ) → j < suc n → (j < n → A) → (j ≡ n → A) → A
by_last j n h less last = by-lt j n less (λ g. last (omega arith))

-- ---- the first index that passes

module _ (p : ℕ → Bool) where
  -- the three ways of a turn of a search: it passes, it does not, none is left
  pub first_here : (i n : ℕ) → i < n → p i ≡ true → first p i n ≡ i
  unfolding first_from
  first_here i n h t =
      let e : n - i ≡ suc (n - (i + 1)) = omega arith in
      rw (e, t)

  pub first_next : (i n : ℕ) → i < n → p i ≡ false → first p i n ≡ first p (i + 1) n
  unfolding first_from
  first_next i n h t =
      let e : n - i ≡ suc (n - (i + 1)) = omega arith in
      rw (e, t)

  pub first_end : (i n : ℕ) → n ≤ i → first p i n ≡ i
  unfolding first_from
  first_end i n h =
      let e : n - i ≡ 0 = omega arith in
      rw e

  is_within : (k i n : ℕ) → i + k ≡ n → IsFirst p i n (first p i n)
  is_within zero i n h =
      rw (first_end i n (omega arith))
      (record { low = omega arith; high = omega arith; below = λ j l u. absurd (omega arith); here = λ u. absurd (omega arith) })
  is_within (suc k) i n h = by-test (p i)
      (λ t. rw (first_here i n (omega arith) t)
      (record { low = omega arith; high = omega arith; below = λ j l u. absurd (omega arith); here = λ u. t }))
      (λ t.
      let r : IsFirst p (i + 1) n (first p (i + 1) n) = is_within k (i + 1) n (omega arith) in
      let b : (j : ℕ) → i ≤ j → j < first p (i + 1) n → p j ≡ false =
      λ j l u. by-lt i j (λ g. r.below j (omega arith) u) (λ g. let e : j ≡ i = omega arith in rw e t) in
      rw (first_next i n (omega arith) t) (record { low = omega arith; high = r.high; below = b; here = r.here }))

  pub first_is : (i n : ℕ) → i ≤ n → IsFirst p i n (first p i n)
  first_is i n h = is_within (n - i) i n (omega arith)

  no_later : (i n j k : ℕ) → IsFirst p i n j → IsFirst p i n k → j ≤ k
  no_later i n j k r s = by-lt k j (λ h. both (s.here (omega arith)) (r.below k s.low h)) (λ h. h)

  pub first_unique : (i n j k : ℕ) → IsFirst p i n j → IsFirst p i n k → j ≡ k
  first_unique i n j k r s = omega (arith, no_later i n j k r s, no_later i n k j s r)

  pub first_low_lem : (i n : ℕ) → i ≤ first p i n
  first_low_lem i n = by-lt i n (λ h. (first_is i n (omega arith)).low) (λ h. rw (first_end i n h) (omega arith))

  pub first_high : (i n : ℕ) → i ≤ n → first p i n ≤ n
  first_high i n h = (first_is i n h).high

  -- a search that finds nothing ends at n, and one that ends at n found nothing
  pub first_none : (i n : ℕ) → i ≤ n → ((j : ℕ) → i ≤ j → j < n → p j ≡ false) → first p i n ≡ n
  first_none i n h none =
      first_unique i n _ _ (first_is i n h) (record { low = h; high = omega arith; below = none; here = λ u. absurd (omega arith) })

  pub none_first : (i n j : ℕ) → first p i n ≡ n → i ≤ j → j < n → p j ≡ false
  none_first i n j e l u = (first_is i n (omega arith)).below j l (rw e u)

  -- a search goes no further than an index that passes
  pub first_to : (i n j : ℕ) → i ≤ j → j < n → p j ≡ true → first p i n ≤ j
  first_to i n j l u t = by-lt j (first p i n) (λ h. both t ((first_is i n (omega arith)).below j l h)) (λ h. h)

  -- whether an index in [i, n) passes
  pub some_yes : (i n j : ℕ) → i ≤ j → j < n → p j ≡ true → ltb (first p i n) n ≡ true
  some_yes i n j l u t = lt-ltb (first p i n) n (omega (arith, first_to i n j l u t))

  pub some_no : (i n : ℕ) → i ≤ n → ((j : ℕ) → i ≤ j → j < n → p j ≡ false) → ltb (first p i n) n ≡ false
  some_no i n h none = le-ltb (first p i n) n (omega (arith, first_none i n h none))

  pub some_hit : (i n : ℕ) → i ≤ n → ltb (first p i n) n ≡ true → (first p i n < n) × (p (first p i n) ≡ true)
  some_hit i n h t = let l = ltb-true (first p i n) n t in (l, (first_is i n h).here l)

  pub no_some : (i n j : ℕ) → ltb (first p i n) n ≡ false → i ≤ j → j < n → p j ≡ false
  no_some i n j f l u = by-test (p j) (λ t. both (some_yes i n j l u t) f) (λ g. g)

  -- a search that found something finds the same below any later bound
  pub first_more : (i n m : ℕ) → first p i n < n → n ≤ m → first p i m ≡ first p i n
  first_more i n m h g = by-lt n i (λ l. absurd (omega (arith, first_low_lem i n))) (λ l.
      let r = first_is i n l in
      let f : first p i n ≤ n = r.high in
      first_unique i m _ _ (first_is i m (omega arith))
      (record { low = r.low; high = omega arith; below = r.below; here = λ u. r.here h }))

-- a search may pass over indices that do not pass
pub first_over : (p : ℕ → Bool) (i m n : ℕ) → i ≤ m → m ≤ n → ((j : ℕ) → i ≤ j → j < m → p j ≡ false) → first p i n ≡ first p m n
first_over p i m n l u none =
    let r = first_is p m n u in
    first_unique p i n _ _ (first_is p i n (omega arith))
    (record { low = omega (arith, r.low); high = r.high; below = λ j g h. by-lt j m (λ k. none j g k) (λ k. r.below j k h); here = r.here })

-- whether some index passes, one index further
pub some_zero : (p : ℕ → Bool) → ltb (first p 0 0) 0 ≡ false
some_zero p = le-ltb (first p 0 0) 0 (omega arith)

pub some_next : (p : ℕ → Bool) (n : ℕ) → ltb (first p 0 (n + 1)) (n + 1) ≡ (ltb (first p 0 n) n || p n)
some_next p n = by-test (ltb (first p 0 n) n)
    (λ t.
    let h = some_hit p 0 n (omega arith) t in
    rw t (some_yes p 0 (n + 1) (first p 0 n) (omega arith) (omega (arith, h.0)) h.1))
    (λ f. by-test (p n)
    (λ t. rw (f, t) (some_yes p 0 (n + 1) n (omega arith) (omega arith) t))
    (λ g. rw (f, g) (some_no p 0 (n + 1) (omega arith) (λ j l u. by_last j n (omega arith) (λ v. no_some p 0 n j f l v) (λ e. rw e g)))))

-- two tests that agree from i on below n
pub first_ext : (p q : ℕ → Bool) (i n : ℕ) → ((j : ℕ) → i ≤ j → j < n → p j ≡ q j) → first p i n ≡ first q i n
first_ext p q i n agree = by-lt i n
    (λ h.
    let r = first_is q i n (omega arith) in
    let f : first q i n ≤ n = r.high in
    first_unique p i n _ _ (first_is p i n (omega arith))
    (record { low = r.low; high = r.high; below = λ j l u. agree j l (omega arith) ∙ r.below j l u; here = λ u. agree _ r.low u ∙ r.here u }))
    (λ h. first_end p i n h ∙ sym (first_end q i n h))

from_shift : (p : ℕ → Bool) (a k i : ℕ) → first_from p (a + i) k ≡ a + first_from (λ j. p (a + j)) i k
unfolding first_from
from_shift p a zero i = refl
from_shift p a (suc k) i =
    let e : a + i + 1 ≡ a + (i + 1) = omega arith in
    by-test (p (a + i)) (λ t. rw t) (λ t. rw (t, e) (from_shift p a k (i + 1)))

-- a search that starts and ends a indices later
pub first_shift : (p : ℕ → Bool) (a i n : ℕ) → first p (a + i) (a + n) ≡ a + first (λ k. p (a + k)) i n
first_shift p a i n =
    let e : a + n - (a + i) ≡ n - i = omega arith in
    rw e (from_shift p a (n - i) i)

-- ---- the last index that passes

module _ (p : ℕ → Bool) where
  pub past_end : past_last p 0 ≡ 0
  unfolding past_last
  past_end = refl

  -- the two ways of a turn of a loop that goes down
  pub past_here : (n : ℕ) → 0 < n → p (n - 1) ≡ true → past_last p n ≡ n
  unfolding past_last
  past_here zero h t = refl
  past_here (suc n) h t =
      let e : suc n - 1 ≡ n = omega arith in
      let s : p n ≡ true = rw e at t in
      rw s

  pub past_next : (n : ℕ) → 0 < n → p (n - 1) ≡ false → past_last p n ≡ past_last p (n - 1)
  unfolding past_last
  past_next zero h t = refl
  past_next (suc n) h t =
      let e : suc n - 1 ≡ n = omega arith in
      let s : p n ≡ false = rw e at t in
      rw (e, s)

  pub past_le : (n : ℕ) → past_last p n ≤ n
  unfolding past_last
  past_le zero = omega arith
  past_le (suc n) = by-test (p n) (λ t. rw t (omega arith)) (λ t. rw t (omega (arith, past_le n)))

  -- the index before it passes, and no later one does
  pub past_last_lem : (n m : ℕ) → past_last p n ≡ suc m → p m ≡ true
  unfolding past_last
  past_last_lem zero m e = absurd (omega arith)
  past_last_lem (suc n) m e = by-test (p n)
      (λ t.
      let g : suc n ≡ suc m = rw t at e in
      let k : m ≡ n = omega arith in
      rw k t)
      (λ t. past_last_lem n m (rw t at e))

  pub past_above : (n j : ℕ) → past_last p n ≤ j → j < n → p j ≡ false
  unfolding past_last
  past_above zero j l u = absurd (omega arith)
  past_above (suc n) j l u = by-test (p n)
      (λ t. let g : suc n ≤ j = rw t at l in absurd (omega arith))
      (λ t. by_last j n u (past_above n j (rw t at l)) (λ e. rw e t))

  -- an index that passes is found from i on exactly where i is below that place: one pass down answers for every start
  pub first_past : (i n : ℕ) → ltb (first p i n) n ≡ ltb i (past_last p n)
  first_past i n = by-lt i (past_last p n)
      (λ h.
      let m : ℕ = past_last p n - 1 in
      let t : p m ≡ true = past_last_lem n m (omega arith) in
      let l : m < n = omega (arith, past_le n) in
      let f : first p i n < n = omega (arith, first_to p i n m (omega arith) l t) in
      lt-ltb _ _ f ∙ sym (lt-ltb _ _ h))
      (λ h.
      let f : n ≤ first p i n = by-lt n i
      (λ l. omega (arith, first_low_lem p i n))
      (λ l. omega (arith, first_none p i n l (λ j g. past_above n j (omega arith)))) in
      le-ltb _ _ f ∙ sym (le-ltb _ _ h))

-- ---- counts

module _ (p : ℕ → Bool) where
  pub count_zero : count p 0 ≡ 0
  unfolding count
  count_zero = refl

  pub count_yes : (n : ℕ) → p n ≡ true → count p (n + 1) ≡ count p n + 1
  unfolding count
  count_yes n t = rw (add-one n, t)

  pub count_no : (n : ℕ) → p n ≡ false → count p (n + 1) ≡ count p n
  unfolding count
  count_no n t = rw (add-one n, t)

  pub count_step : (n : ℕ) → (count p n ≤ count p (n + 1)) × (count p (n + 1) ≤ count p n + 1)
  count_step n = by-test (p n) (λ t. rw (count_yes n t) (omega arith)) (λ t. rw (count_no n t) (omega arith))

  pub count_mono : (i n : ℕ) → i ≤ n → count p i ≤ count p n
  count_mono i zero h = let e : i ≡ 0 = omega arith in rw e (omega arith)
  count_mono i (suc n) h = by-lt n i
      (λ g. let e : i ≡ suc n = omega arith in rw e (omega arith))
      (λ g. rw (← add-one n) (omega (arith, count_mono i n g, count_step n)))

  pub count_le : (n : ℕ) → count p n ≤ n
  unfolding count
  count_le zero = omega arith
  count_le (suc n) = by-test (p n) (λ t. rw t (omega (arith, count_le n))) (λ t. rw t (omega (arith, count_le n)))

  -- an index that passes is counted below every later bound, so two that pass have two numbers
  pub count_lt : (i n : ℕ) → i < n → p i ≡ true → count p i < count p n
  count_lt i n h t = omega (arith, count_yes i t, count_mono (i + 1) n (omega arith))

  later : (i j : ℕ) → p i ≡ true → count p i ≡ count p j → j ≤ i
  later i j t e = by-lt i j (λ h. absurd (omega (arith, count_lt i j h t))) (λ h. h)

  pub count_inj : (i j : ℕ) → p i ≡ true → p j ≡ true → count p i ≡ count p j → i ≡ j
  count_inj i j t u e = omega (arith, later i j t e, later j i u (sym e))

  -- every number below the count is the number of an index that passes
  pub count_hit : (n k : ℕ) → k < count p n → (i : ℕ) × (i < n) × (p i ≡ true) × (count p i ≡ k)
  unfolding count
  count_hit zero k h = absurd (omega arith)
  count_hit (suc n) k h = by-lt k (count p n)
      (λ g. let r = count_hit n k g in (r.0, omega (arith, r.1), r.2, r.3))
      (λ g. by-test (p n)
      (λ t. let l : k < count p n + 1 = rw t at h in (n, omega arith, t, omega arith))
      (λ t. let l : k < count p n = rw t at h in absurd (omega arith)))

pub count_next : (p : ℕ → Bool) (n : ℕ) → count p (n + 1) ≡ count p n + cond (p n) 1 0
count_next p n = by-test (p n) (λ t. rw (count_yes p n t, t)) (λ f. rw (count_no p n f, f) (sym (add-zero (count p n))))

-- indices that do not pass are not counted
pub count_skip : (p : ℕ → Bool) (a k : ℕ) → ((j : ℕ) → a ≤ j → j < a + k → p j ≡ false) → count p (a + k) ≡ count p a
count_skip p a zero none = rw (add-zero a)
count_skip p a (suc k) none =
    let e : a + suc k ≡ a + k + 1 = omega arith in
    rw (e, count_no p (a + k) (none (a + k) (omega arith) (omega arith))) (count_skip p a k (λ j l u. none j l (omega arith)))

pub count_all : (n : ℕ) → count (λ i. true) n ≡ n
unfolding count
count_all zero = refl
count_all (suc n) = rw (count_all n) (add-one n)

pub count_none : (p : ℕ → Bool) (n : ℕ) → ((i : ℕ) → i < n → p i ≡ false) → count p n ≡ 0
unfolding count
count_none p zero none = refl
count_none p (suc n) none = rw (none n (omega arith)) (count_none p n (λ i h. none i (omega arith)))

pub count_same : (p q : ℕ → Bool) (n : ℕ) → ((i : ℕ) → i < n → p i ≡ q i) → count p n ≡ count q n
unfolding count
count_same p q zero agree = refl
count_same p q (suc n) agree = rw (agree n (omega arith), count_same p q n (λ i h. agree i (omega arith)))

-- ---- sums

module _ (f : ℕ → ℕ) where
  pub sum_zero : sum f 0 ≡ 0
  unfolding sum
  sum_zero = refl

  pub sum_next : (n : ℕ) → sum f (n + 1) ≡ sum f n + f n
  unfolding sum
  sum_next n = rw (add-one n)

  pub sum_mono : (i n : ℕ) → i ≤ n → sum f i ≤ sum f n
  sum_mono i zero h = let e : i ≡ 0 = omega arith in rw e (omega arith)
  sum_mono i (suc n) h = by-lt n i
      (λ g. let e : i ≡ suc n = omega arith in rw e (omega arith))
      (λ g. rw (← add-one n) (omega (arith, sum_mono i n g, sum_next n)))

  -- what an index adds stands below every later sum
  pub sum_at : (i n : ℕ) → i < n → sum f i + f i ≤ sum f n
  sum_at i n h = omega (arith, sum_next i, sum_mono (i + 1) n (omega arith))

  pub sum_bound : (w n : ℕ) → ((i : ℕ) → i < n → f i ≤ w) → sum f n ≤ w * n
  unfolding sum
  sum_bound w zero small = omega arith
  sum_bound w (suc n) small = rw (mul-suc w n) (omega (arith, sum_bound w n (λ i h. small i (omega arith)), small n (omega arith)))

pub sum_same : (f g : ℕ → ℕ) (n : ℕ) → ((i : ℕ) → i < n → f i ≡ g i) → sum f n ≡ sum g n
unfolding sum
sum_same f g zero agree = refl
sum_same f g (suc n) agree = rw (agree n (omega arith), sum_same f g n (λ i h. agree i (omega arith)))

pub sum_const : (w n : ℕ) → sum (λ i. w) n ≡ w * n
unfolding sum
sum_const w zero = sym (mul-zero w)
sum_const w (suc n) = rw (mul-suc w n, sum_const w n)

-- ---- lists gathered

module _ {A : Type 0} (p : ℕ → Bool) (f : ℕ → List A) where
  pub gather_zero : gather p f 0 ≡ []
  unfolding gather
  gather_zero = refl

  pub gather_yes : (n : ℕ) → p n ≡ true → gather p f (n + 1) ≡ gather p f n ++ f n
  unfolding gather
  gather_yes n t = rw (add-one n, t)

  pub gather_no : (n : ℕ) → p n ≡ false → gather p f (n + 1) ≡ gather p f n
  unfolding gather
  gather_no n t = rw (add-one n, t)

  -- i + k indices are the first i and the k behind them
  pub gather_append : (i k : ℕ) → gather p f (i + k) ≡ gather p f i ++ gather (λ j. p (i + j)) (λ j. f (i + j)) k
  unfolding gather
  gather_append i zero = rw (add-zero i) (sym (append-nil _))
  gather_append i (suc k) = rw (add-suc i k) (by-test (p (i + k))
      (λ t. rw (t, gather_append i k, append_assoc))
      (λ t. rw t (gather_append i k)))

  -- what an index that passes gives stands right behind what the earlier ones give, whatever the widths
  pub gather_split : (i n : ℕ) → i < n → p i ≡ true → (r : List A) × (gather p f n ≡ gather p f i ++ (f i ++ r))
  gather_split i n h t =
      let rest : List A = gather (λ j. p (i + 1 + j)) (λ j. f (i + 1 + j)) (n - (i + 1)) in
      let e : n ≡ i + 1 + (n - (i + 1)) = omega arith in
      (rest, ap (gather p f) e ∙ gather_append (i + 1) (n - (i + 1)) ∙ rw (gather_yes i t, append_assoc))

  pub gather_window : (i n : ℕ) → i < n → p i ≡ true → take (length (f i)) (drop (length (gather p f i)) (gather p f n)) ≡ f i
  gather_window i n h t = let s = gather_split i n h t in rw (s.1, drop-append_seam, take-append_seam)

  pub gather_long : (n : ℕ) → length (gather p f n) ≡ sum (λ i. cond (p i) (length (f i)) 0) n
  unfolding gather sum
  gather_long zero = refl
  gather_long (suc n) = by-test (p n)
      (λ t. rw (t, length-append, gather_long n))
      (λ t. rw (t, gather_long n) (omega arith))

  module _ (w : ℕ) (wide : (i : ℕ) → p i ≡ true → length (f i) ≡ w) where
    pub gather_length : (n : ℕ) → length (gather p f n) ≡ w * count p n
    unfolding gather count
    gather_length zero = sym (mul-zero w)
    gather_length (suc n) = by-test (p n)
        (λ t. rw (t, length-append, gather_length n, wide n t, add-one, mul-suc))
        (λ t. rw t (gather_length n))

    -- record number `count p i` is what i gives
    pub gather_at : (i n : ℕ) → i < n → p i ≡ true → take w (drop (w * count p i) (gather p f n)) ≡ f i
    gather_at i n h t = rw (← gather_length i, ← wide i t) (gather_window i n h t)

-- the length where every index passes, and where each list has w elements
pub gather_sum : {A : Type 0} (f : ℕ → List A) (n : ℕ) → length (gather (λ i. true) f n) ≡ sum (λ i. length (f i)) n
gather_sum f n = gather_long (λ i. true) f n

pub gather_all_length : {A : Type 0} (f : ℕ → List A) (w : ℕ) → ((i : ℕ) → length (f i) ≡ w) → (n : ℕ) → length (gather (λ i. true) f n) ≡ w * n
gather_all_length f w wide n = gather_length (λ i. true) f w (λ i t. wide i) n ∙ ap (λ (k : ℕ). w * k) (count_all n)

-- tests that agree below n, and lists that agree where they pass
pub gather_same : {A : Type 0} (p q : ℕ → Bool) (f g : ℕ → List A) (n : ℕ)
    → ((i : ℕ) → i < n → p i ≡ q i) → ((i : ℕ) → i < n → p i ≡ true → f i ≡ g i) → gather p f n ≡ gather q g n
unfolding gather
gather_same p q f g zero agree alike = refl
gather_same p q f g (suc n) agree alike =
    let e : gather p f n ≡ gather q g n = gather_same p q f g n (λ i h. agree i (omega arith)) (λ i h. alike i (omega arith)) in
    by-test (p n)
    (λ t. rw (← agree n (omega arith), t, e, alike n (omega arith) t))
    (λ t. rw (← agree n (omega arith), t) e)

-- indices that give nothing pass or not
pub gather_skip : {A : Type 0} (p q : ℕ → Bool) (f : ℕ → List A) (n : ℕ)
    → ((i : ℕ) → i < n → (p i ≡ q i → ⊥) → f i ≡ []) → gather p f n ≡ gather q f n
unfolding gather
gather_skip p q f zero empty = refl
gather_skip p q f (suc n) empty =
    let e : gather p f n ≡ gather q f n = gather_skip p q f n (λ i h. empty i (omega arith)) in
    by-test (p n)
    (λ t. by-test (q n) (λ s. rw (t, s, e)) (λ s. rw (t, s, e, empty n (omega arith) (λ g. both t (g ∙ s))) (append-nil _)))
    (λ t. by-test (q n) (λ s. rw (t, s, e, empty n (omega arith) (λ g. both s (sym g ∙ t))) (sym (append-nil _))) (λ s. rw (t, s, e)))

pub gather_none : {A : Type 0} (p : ℕ → Bool) (f : ℕ → List A) (n : ℕ) → ((i : ℕ) → i < n → p i ≡ false) → gather p f n ≡ []
unfolding gather
gather_none p f zero none = refl
gather_none p f (suc n) none = rw (none n (omega arith)) (gather_none p f n (λ i h. none i (omega arith)))

-- ---- elements selected

module _ {A : Type 0} (p : ℕ → Bool) (f : ℕ → A) where
  pub select_zero : select p f 0 ≡ []
  unfolding select
  select_zero = gather_zero p (λ i. f i ∷ [])

  pub select_yes : (n : ℕ) → p n ≡ true → select p f (n + 1) ≡ select p f n ++ (f n ∷ [])
  unfolding select
  select_yes n t = gather_yes p (λ i. f i ∷ []) n t

  pub select_no : (n : ℕ) → p n ≡ false → select p f (n + 1) ≡ select p f n
  unfolding select
  select_no n t = gather_no p (λ i. f i ∷ []) n t

  pub select_length : (n : ℕ) → length (select p f n) ≡ count p n
  unfolding select
  select_length n = gather_length p (λ i. f i ∷ []) 1 (λ i t. refl) n ∙ one-mul _

  -- an index that passes has its element at its number
  pub select_at : (i n : ℕ) (d : A) → i < n → p i ≡ true → get_or (select p f n) (count p i) d ≡ f i
  unfolding select
  select_at i n d h t =
      let s = gather_split p (λ k. f k ∷ []) i n h t in
      rw s.1 (get_or_at (gather p (λ k. f k ∷ []) i) (f i) s.0 d (count p i) (select_length i))

  -- a turn of a loop that fills a table t from its front: T is the table so far, c the number of its filled places
  pub select_put : (t T : List A) (c i : ℕ) → T ≡ select p f i ++ drop c t → c ≡ count p i → c < length t → p i ≡ true
      → set T c (f i) ≡ select p f (i + 1) ++ drop (c + 1) t
  select_put t T c i e n h y =
      let k : drop c t ≡ get_or t c (f i) ∷ drop (c + 1) t = rw (add-one, drop-cons t c (f i)) in
      rw (e, k, select_yes i y, set_at (select p f i) (get_or t c (f i)) (drop (c + 1) t) (f i) c (select_length i ∙ sym n))
      (sym (append_snoc (select p f i) (f i) (drop (c + 1) t)))

-- where every index passes: as many as there are indices, each at its own
module _ {A : Type 0} (f : ℕ → A) where
  pub select_all_length : (n : ℕ) → length (select (λ i. true) f n) ≡ n
  select_all_length n = select_length (λ i. true) f n ∙ count_all n

  pub select_all_at : (k n : ℕ) (d : A) → k < n → get_or (select (λ i. true) f n) k d ≡ f k
  select_all_at k n d h = ap (λ (j : ℕ). get_or (select (λ i. true) f n) j d) (sym (count_all k)) ∙ select_at (λ i. true) f k n d h refl

  pub select_all_put : (t T : List A) (i : ℕ) → T ≡ select (λ j. true) f i ++ drop i t → i < length t
      → set T i (f i) ≡ select (λ j. true) f (i + 1) ++ drop (i + 1) t
  select_all_put t T i e h = select_put (λ j. true) f t T i i e (sym (count_all i)) h refl

-- a list is what it has at each of its indices
pub select_all_is : {A : Type 0} (l : List A) (f : ℕ → A) (d : A) → ((i : ℕ) → i < length l → f i ≡ get_or l i d) → select (λ i. true) f (length l) ≡ l
select_all_is l f d same = ext_get_or d (select (λ i. true) f (length l)) l (select_all_length f (length l)) (λ i h.
    let k : i < length l = rw (select_all_length f (length l)) at h in
    select_all_at f i (length l) d k ∙ same i k)

pub select_same : {A : Type 0} (p q : ℕ → Bool) (f g : ℕ → A) (n : ℕ)
    → ((i : ℕ) → i < n → p i ≡ q i) → ((i : ℕ) → i < n → p i ≡ true → f i ≡ g i) → select p f n ≡ select q g n
unfolding select
select_same p q f g n agree alike = gather_same p q (λ i. f i ∷ []) (λ i. g i ∷ []) n agree (λ i h t. ap (λ x. x ∷ []) (alike i h t))

-- ---- least

module _ (v : ℕ → ℕ) (p : ℕ → Bool) (d : ℕ) where
  pub least_zero : least v p d 0 ≡ d
  unfolding least
  least_zero = refl

  -- a turn of the loop that keeps the lowest value
  pub least_next : (n : ℕ) → least v p d (n + 1) ≡ cond (p n) (min (v n) (least v p d n)) (least v p d n)
  unfolding least
  least_next n = rw (add-one n)

  pub least_high : (n : ℕ) → least v p d n ≤ d
  unfolding least
  least_high zero = omega arith
  least_high (suc n) = by-test (p n) (λ e. rw e (omega (arith, least_high n))) (λ e. rw e (least_high n))

  -- it is below every value that takes part
  pub least_below : (n i : ℕ) → i < n → p i ≡ true → least v p d n ≤ v i
  unfolding least
  least_below zero i h e = absurd (omega arith)
  least_below (suc n) i h e = by_last i n h
      (λ l. by-test (p n) (λ t. rw t (omega (arith, least_below n i l e))) (λ t. rw t (least_below n i l e)))
      (λ q. let t : p n ≡ true = rw (← q) e in rw (t, q) (omega arith))

  wider : (n : ℕ) {x : ℕ} → (i : ℕ) × (i < n) × (p i ≡ true) × (v i ≡ x) → (i : ℕ) × (i < suc n) × (p i ≡ true) × (v i ≡ x)
  wider n r = (r.0, omega (arith, r.1), r.2, r.3)

  -- a least value below the bound is one of those that take part
  pub least_hit : (n : ℕ) → least v p d n < d → (i : ℕ) × (i < n) × (p i ≡ true) × (v i ≡ least v p d n)
  unfolding least
  least_hit zero h = absurd (omega arith)
  least_hit (suc n) h = by-test (p n)
      (λ t. by-lt (v n) (least v p d n)
      (λ l. (n, omega arith, t, rw t (omega arith)))
      (λ l.
      let g : least v p d n < d = omega (arith, rw t at h) in
      let m : min (v n) (least v p d n) ≡ least v p d n = omega arith in
      rw (t, m) (wider n (least_hit n g))))
      (λ t.
      let g : least v p d n < d = rw t at h in
      rw t (wider n (least_hit n g)))
