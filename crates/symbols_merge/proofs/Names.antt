-- That two positions are of one symbol is an equivalence: of one name, or, without a name, one position. Assumes nothing.
use Prim.Native.Nat.{ℕ, ◌<◌}
use mathlib.Core.Path.{◌≡◌, refl, sym, ap, ◌∙◌}
use mathlib.Core.Bool.{Bool, true, false}
use mathlib.Core.List.{List}
use lib.ListN.{length}
use lib.Dec.{eqb}
use borrow.Author.Tests.{eqb-true, eq-eqb}
use Rattle.base_lists.specs.Strings.{same}
use Rattle.base_lists.proofs.Ranges.{by-test}
use Rattle.base_lists.proofs.Strings.{same_true, same_refl}
use Rattle.base_groups.specs.Holders.{Equivalence}
use Rattle.symbols_merge.specs.Candidates.{Candidates, is_unnamed}
use Rattle.symbols_merge.specs.Listed.{listed_at, is_alike}

module _ (s : Candidates) where
  pub alike_unnamed : (p q : ℕ) → is_unnamed s (listed_at s p) ≡ true → is_alike s p q ≡ eqb p q
  unfolding is_alike
  alike_unnamed p q t = rw t

  pub alike_named : (p q : ℕ) → is_unnamed s (listed_at s p) ≡ false → is_alike s p q ≡ same (s.name (listed_at s p)) (s.name (listed_at s q))
  unfolding is_alike
  alike_named p q t = rw t

  pub unnamed_one : (p q : ℕ) → is_unnamed s (listed_at s p) ≡ true → is_alike s p q ≡ true → p ≡ q
  unnamed_one p q t e = eqb-true p q (sym (alike_unnamed p q t) ∙ e)

  -- positions that are alike have one name
  pub alike_name : (p q : ℕ) → is_alike s p q ≡ true → s.name (listed_at s p) ≡ s.name (listed_at s q)
  alike_name p q e = by-test (is_unnamed s (listed_at s p))
      (λ t. ap (λ (x : ℕ). s.name (listed_at s x)) (unnamed_one p q t e))
      (λ t. same_true _ _ (sym (alike_named p q t) ∙ e))

  -- and positions of one name are alike
  pub name_alike : (p q : ℕ) → is_unnamed s (listed_at s p) ≡ false → s.name (listed_at s p) ≡ s.name (listed_at s q) → is_alike s p q ≡ true
  name_alike p q t e = alike_named p q t ∙ ap (same (s.name (listed_at s p))) (sym e) ∙ same_refl (s.name (listed_at s p))

  pub same_unnamed : (i j : ℕ) → s.name i ≡ s.name j → is_unnamed s i ≡ is_unnamed s j
  unfolding is_unnamed
  same_unnamed i j e = rw e

  alike_itself : (p : ℕ) → is_alike s p p ≡ true
  alike_itself p = by-test (is_unnamed s (listed_at s p))
      (λ t. alike_unnamed p p t ∙ eq-eqb p p refl)
      (λ t. name_alike p p t refl)

  pub alike_parts : Equivalence (is_alike s)
  alike_parts = record {
    itself = alike_itself;
    back = λ p q e. by-test (is_unnamed s (listed_at s p))
        (λ t. rw (unnamed_one p q t e) (alike_itself q))
        (λ t. name_alike q p (same_unnamed _ _ (sym (alike_name p q e)) ∙ t) (sym (alike_name p q e)));
    on = λ p q r d e. by-test (is_unnamed s (listed_at s p))
        (λ t. rw (unnamed_one p q t d) e)
        (λ t. name_alike p r t (alike_name p q d ∙ alike_name q r e));
  }
