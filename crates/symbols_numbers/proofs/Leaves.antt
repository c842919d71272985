-- The group of a position is what its row tells, a word that is written changes no other, and numbers become symbols by cases. Assumes nothing.
use Rattle.std.specs.Prelude.{None, Some}
use Prim.Native.Nat.{ℕ, zero, suc, ◌+◌, ◌*◌, ◌≤◌, ◌<◌}
use mathlib.Core.Path.{◌≡◌, refl, sym, ap, ◌∙◌}
use mathlib.Core.Bool.{true, false, cond}
use mathlib.Core.Logic.{◌≢◌, inl, inr}
use mathlib.Core.List.{List}
use native.Mathlib.Nat.{zero-add}
use native.Mathlib.Omega.{arith}
use lib.ListN.{length}
use lib.Dec.{eqb}
use borrow.Author.Tests.{eq-eqb, ne_eqb, eqb-true, eqb-false, lt-ltb, le-ltb}
use Rattle.base_lists.specs.Windows.{spliced}
use Rattle.base_lists.proofs.Ranges.{both, by-lt}
use Rattle.base_lists.proofs.Windows.{length_spliced}
use Rattle.base_fields.specs.declared.ByteOrder.TheVariants.{Big}
use Rattle.base_fields.specs.Numbers.{number, encoded}
use Rattle.base_fields.proofs.Numbers.{length_encoded, number_spliced, number_outside}
use Rattle.base_packed.specs.declared.MergedSymbol.{MergedSymbol}
use Rattle.symbols_merge.specs.Merged.{LOCAL_GROUPS}
use Rattle.symbols_rows.specs.declared.IdRow.{IdRow}
use Rattle.symbols_rows.specs.Rows.{id_row, half_in, result_group_in}
use Rattle.symbols_rows.proofs.Rows.{row_fields}
use Rattle.base_scope.specs.Elf.{STB_LOCAL}
use Rattle.symbols_numbers.specs.Numbers.{binding_group, holds_in, count_behind, OrderedAt, number_on, NumberedAt, new_symbol, new_in}

-- ---- groups

pub group_local : (b : ℕ) → b ≡ STB_LOCAL → binding_group b ≡ 0
unfolding binding_group
group_local b e = rw (eq-eqb b STB_LOCAL e)

pub group_other : (b : ℕ) → (b ≡ STB_LOCAL → ⊥) → binding_group b ≡ LOCAL_GROUPS
unfolding binding_group
group_other b d = rw (ne_eqb b STB_LOCAL d)

pub group_told : (T L : List ℕ) (p : ℕ) (row : IdRow) (g x : ℕ) → row ≡ id_row T (half_in L p) → g ≡ binding_group row.binding → x ≡ cond row.gp_disp 1 0
    → g + x ≡ result_group_in T L p
unfolding result_group_in binding_group
group_told T L p row g x e f k =
    let r = row_fields T (half_in L p) row (sym e) in
    rw (f, k, r.binding, r.gp_disp)

-- ---- holders

pub holds_self : (H : List ℕ) (p : ℕ) → half_in H p ≡ p → holds_in H p ≡ true
unfolding holds_in
holds_self H p e = eq-eqb _ _ e

pub held_else : (H : List ℕ) (p : ℕ) → (half_in H p ≡ p → ⊥) → holds_in H p ≡ false
unfolding holds_in
held_else H p d = ne_eqb _ _ d

pub self_holds : (H : List ℕ) (p : ℕ) → holds_in H p ≡ true → half_in H p ≡ p
unfolding holds_in
self_holds H p t = eqb-true _ _ t

pub else_held : (H : List ℕ) (p : ℕ) → holds_in H p ≡ false → half_in H p ≢ p
unfolding holds_in
else_held H p f = eqb-false _ _ f

-- ---- a word written

module _ (T : List ℕ) (k x : ℕ) (fits : 2 * k + 2 ≤ length T) where
  within : 2 * k + length (encoded Big 2 x) ≤ length T
  within = rw (length_encoded Big 2 x) fits

  pub word_long : length (spliced T (2 * k) (encoded Big 2 x)) ≡ length T
  word_long = length_spliced T (2 * k) (encoded Big 2 x) within

  pub word_same : half_in (spliced T (2 * k) (encoded Big 2 x)) k ≡ x
  unfolding half_in
  word_same = number_spliced Big 1 x (2 * k) T fits

  pub word_other : (j : ℕ) → j ≢ k → half_in (spliced T (2 * k) (encoded Big 2 x)) j ≡ half_in T j
  unfolding half_in
  word_other j d =
      number_outside Big 2 (2 * j) T (2 * k) (encoded Big 2 x) within
      (rw (length_encoded Big 2 x) (by-lt k j (λ l. inr (omega arith)) (λ l. inl (omega arith))))

-- ---- the symbol of a number

pub symbol_none : (x : ℕ) → x ≡ 0 → new_symbol x ≡ None
unfolding new_symbol
symbol_none x e = rw e

pub symbol_some : (x : ℕ) (s : MergedSymbol) → (x ≡ 0 → ⊥) → s.0 ≡ x → new_symbol x ≡ Some s
unfolding new_symbol
symbol_some zero s d e = absurd (d refl)
symbol_some (suc x) s d e = rw (← e)

module _ (N : List ℕ) (from many k : ℕ) where
  pub new_in_lem : k < many → new_in N from many k ≡ new_symbol (half_in N (from + k))
  unfolding new_in
  new_in_lem h = rw (lt-ltb k many h)

  pub new_past : many ≤ k → new_in N from many k ≡ None
  unfolding new_in
  new_past h = rw (le-ltb k many h)

pub new_first : (N : List ℕ) (many k : ℕ) → k < many → new_in N 0 many k ≡ new_symbol (half_in N k)
new_first N many k h = new_in_lem N 0 many k h ∙ rw (zero-add k)

-- ---- what each leaf answers

pub holder_told : (H : List ℕ) (p w : ℕ) → w ≡ half_in H p → eqb w p ≡ holds_in H p
unfolding holds_in
holder_told H p w e = rw e

pub behind_held : (H : List ℕ) (p n : ℕ) → holds_in H p ≡ true → n + 1 ≡ count_behind H p n
behind_held H p n t = rw t

pub behind_else : (H : List ℕ) (p n : ℕ) → holds_in H p ≡ false → n ≡ count_behind H p n
behind_else H p n f = rw f (omega arith)

module _ (H : List ℕ) (p place : ℕ) where
  pub ordered_held : (before after : List ℕ) → holds_in H p ≡ true → after ≡ spliced before (2 * place) (encoded Big 2 p) → OrderedAt H p place (place + 1) before after
  ordered_held before after t e = record { next_is = behind_held H p place t; put = λ s. e; kept = λ f. both t f }

  pub ordered_else : (before : List ℕ) → holds_in H p ≡ false → OrderedAt H p place place before before
  ordered_else before f = record { next_is = behind_else H p place f; put = λ t. both t f; kept = λ s. refl }

module _ (L H : List ℕ) (p place : ℕ) (N : List ℕ) where
  pub number_held : (w r : ℕ) → w ≡ half_in H p → w ≡ p → r ≡ place + 1 → r ≡ number_on L H p place N
  unfolding number_on
  number_held w r e h f = rw (holds_self H p (sym e ∙ h)) f

  pub number_else : (w i r : ℕ) → w ≡ half_in H p → (w ≡ p → ⊥) → i ≡ half_in L w → r ≡ half_in N i → r ≡ number_on L H p place N
  unfolding number_on
  number_else w i r e d f g =
      let q : holds_in H p ≡ false = held_else H p (λ h. d (e ∙ h)) in
      rw q (g ∙ ap (half_in N) (f ∙ ap (half_in L) e))

  pub numbered_put : (w x next : ℕ) (after : List ℕ) → x ≡ number_on L H p place N → w ≡ half_in L p → after ≡ spliced N (2 * w) (encoded Big 2 x) → next ≡ count_behind H p place
      → NumberedAt L H p place next N after
  numbered_put w x next after e f g n = record { next_is = n; put = g ∙ rw (e, f) }
