-- Two lists side by side: they are as long, and each element of the one stands in a relation to the other's at its index. Appended, gathered and selected alike they stay so.
-- Assumes nothing.
use Prim.Native.Nat.{ℕ, zero, suc, ◌<◌}
use mathlib.Core.Path.{◌≡◌, refl}
use mathlib.Core.Bool.{Bool, true}
use mathlib.Core.List.{List, [], ◌∷◌, ◌++◌}
use native.Mathlib.Omega.{arith}
use lib.ListN.{length, get_or}
use Rattle.base_lists.specs.Ranges.{gather, select}
use Rattle.base_lists.proofs.Ranges.{by-test}

module _ {X Y : Type 0} (R : X → Y → Type 0) where
  pub record Matched (l : List X) (m : List Y) : Type 0 where
    pub long : length l ≡ length m
    pub pairs : (j : ℕ) (d : X) (e : Y) → j < length l → R (get_or l j d) (get_or m j e)

  pub matched_none : Matched [] []
  matched_none = record { long = refl; pairs = λ j d e h. absurd (omega (arith, h)) }

  module _ (x : X) (y : Y) (l : List X) (m : List Y) where
    matched_rest : Matched (x ∷ l) (y ∷ m) → Matched l m
    matched_rest a = record { long = omega (arith, a.long); pairs = λ j d e h. a.pairs (suc j) d e (omega (arith, h)) }

    pairs_more : R x y → Matched l m → (j : ℕ) (d : X) (e : Y) → j < length (x ∷ l) → R (get_or (x ∷ l) j d) (get_or (y ∷ m) j e)
    pairs_more r a zero d e h = r
    pairs_more r a (suc j) d e h = a.pairs j d e (omega (arith, h))

    matched_more : R x y → Matched l m → Matched (x ∷ l) (y ∷ m)
    matched_more r a = record { long = omega (arith, a.long); pairs = pairs_more r a }

  pub matched_append : (l : List X) (m : List Y) (k : List X) (n : List Y) → Matched l m → Matched k n → Matched (l ++ k) (m ++ n)
  matched_append [] [] k n a b = b
  matched_append [] (y ∷ m) k n a b = absurd (omega (arith, a.long))
  matched_append (x ∷ l) [] k n a b = absurd (omega (arith, a.long))
  matched_append (x ∷ l) (y ∷ m) k n a b =
      matched_more x y (l ++ k) (m ++ n) (a.pairs 0 x y (omega arith)) (matched_append l m k n (matched_rest x y l m a) b)

  -- tests that agree below n, and parts that are matched where they pass
  pub matched_gather : (p q : ℕ → Bool) (f : ℕ → List X) (g : ℕ → List Y) (n : ℕ)
      → ((i : ℕ) → i < n → p i ≡ q i) → ((i : ℕ) → i < n → p i ≡ true → Matched (f i) (g i)) → Matched (gather p f n) (gather q g n)
  unfolding gather
  matched_gather p q f g zero agree parts = matched_none
  matched_gather p q f g (suc n) agree parts =
      let before : Matched (gather p f n) (gather q g n) = matched_gather p q f g n (λ i h. agree i (omega arith)) (λ i h. parts i (omega arith)) in
      by-test (p n)
      (λ t. rw (← agree n (omega arith), t) (matched_append (gather p f n) (gather q g n) (f n) (g n) before (parts n (omega arith) t)))
      (λ e. rw (← agree n (omega arith), e) before)

  pub matched_select : (p q : ℕ → Bool) (f : ℕ → X) (g : ℕ → Y) (n : ℕ)
      → ((i : ℕ) → i < n → p i ≡ q i) → ((i : ℕ) → i < n → p i ≡ true → R (f i) (g i)) → Matched (select p f n) (select q g n)
  unfolding select
  matched_select p q f g n agree parts =
      matched_gather p q (λ i. f i ∷ []) (λ i. g i ∷ []) n agree (λ i h t. matched_more (f i) (g i) [] [] (parts i h t) matched_none)
