-- Laws of holders, over any test that is an equivalence: a holder is like what it holds, those that are alike have one holder, and two holders are not alike. Assumes nothing.
use Prim.Native.Nat.{ℕ, ◌≤◌, ◌<◌}
use mathlib.Core.Path.{◌≡◌, refl, sym, ap, ◌∙◌, fun_ext}
use mathlib.Core.Bool.{Bool, true, false}
use native.Mathlib.Omega.{arith}
use lib.Dec.{eqb}
use borrow.Author.Tests.{eqb-true, eq-eqb}
use Rattle.base_lists.specs.Ranges.{first}
use Rattle.base_lists.proofs.Ranges.{first_is, first_to}
use Rattle.base_groups.specs.Holders.{holder, is_holder, Equivalence}

-- two tests that imply each other are one
pub test_ext : (a b : Bool) → (a ≡ true → b ≡ true) → (b ≡ true → a ≡ true) → a ≡ b
test_ext true b f g = sym (f refl)
test_ext false true f g = g refl
test_ext false false f g = refl

module _ (alike : ℕ → ℕ → Bool) (n : ℕ) (E : Equivalence alike) where
  abbrev H : ℕ → ℕ
  H = holder alike n

  pub holder_le : (p : ℕ) → p < n → H p ≤ p
  unfolding holder
  holder_le p h = first_to (alike p) 0 n p (omega arith) h (E.itself p)

  pub holder_lt : (p : ℕ) → p < n → H p < n
  holder_lt p h = omega (arith, holder_le p h)

  pub holder_alike : (p : ℕ) → p < n → alike p (H p) ≡ true
  unfolding holder
  holder_alike p h = (first_is (alike p) 0 n (omega arith)).here (holder_lt p h)

  pub holder_same : (p q : ℕ) → alike p q ≡ true → H p ≡ H q
  unfolding holder
  holder_same p q e = ap (λ (t : ℕ → Bool). first t 0 n)
      (fun_ext (λ x. test_ext (alike p x) (alike q x) (λ a. E.on q p x (E.back p q e) a) (λ a. E.on p q x e a)))

  pub holder_holds : (p : ℕ) → p < n → is_holder alike n (H p) ≡ true
  unfolding is_holder
  holder_holds p h = eq-eqb _ _ (sym (holder_same p (H p) (holder_alike p h)))

  pub holder_once : (p q : ℕ) → is_holder alike n p ≡ true → is_holder alike n q ≡ true → alike p q ≡ true → p ≡ q
  unfolding is_holder
  holder_once p q a b e = sym (eqb-true _ _ a) ∙ (holder_same p q e ∙ eqb-true _ _ b)
