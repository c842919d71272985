-- 18 and 19 at a position, from the rows in hand; the search for the first position that is at fault; and the two of them in order. Assumes nothing.
use Rattle.std.specs.Prelude.{None, Some, Option}
use Prim.Native.Nat.{ℕ, ◌+◌, ◌≤◌, ◌<◌}
use mathlib.Core.Path.{◌≡◌, refl, sym, ap, ◌∙◌}
use mathlib.Core.Bool.{Bool, true, false, not, ◌&&◌, ◌||◌}
use mathlib.Core.List.{List}
use lib.Dec.{eqb}
use borrow.Author.Tests.{eq-eqb, ne_eqb, lt-ltb, le-ltb}
use Rattle.base_lists.specs.Ranges.{first}
use Rattle.base_lists.proofs.Ranges.{first_here, first_next, first_end}
use Rattle.base_scope.specs.Elf.{SHN_UNDEF, STB_LOCAL}
use Rattle.base_scope.specs.Refusals.{LOOSE_SYMBOL, NAME_TWICE, found_below}
use Rattle.base_answers.specs.Answers.{NONE}
use Rattle.base_answers.specs.Verdicts.{Passed, Refused, Verdict, finding_verdict}
use Rattle.base_answers.proofs.Verdicts.{also_passed, also_refused}
use Rattle.symbols_rows.specs.declared.IdRow.{IdRow}
use Rattle.symbols_rows.specs.Rows.{id_unnamed, id_binding, id_section, id_value, id_row, half_in, loose_in, elsewhere_in}
use Rattle.symbols_rows.specs.Steps.{verdict_in}

-- ---- a search

module _ (t : ℕ → Bool) (m p : ℕ) (on : first t 0 m ≡ first t p m) where
  pub fault_here : p < m → (b : Bool) → b ≡ t p → b ≡ true → Some p ≡ found_below m (first t 0 m)
  unfolding found_below
  fault_here h b e y = rw (on, first_here t p m h (sym e ∙ y), lt-ltb p m h)

  pub fault_next : p < m → (b : Bool) → b ≡ t p → b ≡ false → first t 0 m ≡ first t (p + 1) m
  fault_next h b e n = on ∙ first_next t p m h (sym e ∙ n)

  pub fault_none : m ≤ p → None ≡ found_below m (first t 0 m)
  unfolding found_below
  fault_none h = rw (on, first_end t p m h, le-ltb p m h)

-- ---- 18

or_off : (a u : Bool) → (a || (u && false)) ≡ a
or_off true u = refl
or_off false true = refl
or_off false false = refl

and_on : (u : Bool) → (u && true) ≡ u
and_on true = refl
and_on false = refl

module _ (T L : List ℕ) (p : ℕ) (row : IdRow) (is : row ≡ id_row T (half_in L p)) where
  row_binding : id_binding T (half_in L p) ≡ row.binding
  unfolding id_row
  row_binding = sym (ap (λ (r : IdRow). r.binding) is)

  row_section : id_section T (half_in L p) ≡ row.section
  unfolding id_row
  row_section = sym (ap (λ (r : IdRow). r.section) is)

  row_value : id_value T (half_in L p) ≡ row.value
  unfolding id_row
  row_value = sym (ap (λ (r : IdRow). r.value) is)

  row_unnamed : id_unnamed T (half_in L p) ≡ row.unnamed
  unfolding id_row
  row_unnamed = sym (ap (λ (r : IdRow). r.unnamed) is)

  pub loose_local : row.binding ≡ STB_LOCAL → eqb row.section SHN_UNDEF ≡ loose_in T L p
  unfolding loose_in
  loose_local e = rw (row_binding, row_section, eq-eqb _ _ e) (sym (or_off (eqb row.section SHN_UNDEF) (id_unnamed T (half_in L p))))

  pub loose_other : (row.binding ≡ STB_LOCAL → ⊥) → row.unnamed ≡ loose_in T L p
  unfolding loose_in
  loose_other e = rw (row_binding, row_unnamed, ne_eqb _ _ e) (sym (and_on row.unnamed))

-- ---- 19

module _ (T L H : List ℕ) (p q : ℕ) (row held : IdRow) (is : row ≡ id_row T (half_in L p)) (holder : held ≡ id_row T (half_in L q)) (at : q ≡ half_in H p) where
  abbrev Place : Bool
  Place = not (eqb row.section SHN_UNDEF) && not (eqb row.section held.section && eqb row.value held.value)

  place_is : Place ≡ elsewhere_in T L H p
  unfolding elsewhere_in
  place_is = rw (← at, row_section T L p row is, row_value T L p row is, row_section T L q held holder, row_value T L q held holder)

  pub elsewhere_undefined : row.section ≡ SHN_UNDEF → false ≡ elsewhere_in T L H p
  elsewhere_undefined e =
      let f : Place ≡ false = rw (eq-eqb _ _ e) in
      sym f ∙ place_is

  pub elsewhere_value : (row.section ≡ SHN_UNDEF → ⊥) → row.section ≡ held.section → not (eqb row.value held.value) ≡ elsewhere_in T L H p
  elsewhere_value d e =
      let f : Place ≡ not (eqb row.value held.value) = rw (ne_eqb _ _ d, eq-eqb _ _ e) in
      sym f ∙ place_is

  pub elsewhere_section : (row.section ≡ SHN_UNDEF → ⊥) → (row.section ≡ held.section → ⊥) → true ≡ elsewhere_in T L H p
  elsewhere_section d e =
      let f : Place ≡ true = rw (ne_eqb _ _ d, ne_eqb _ _ e) in
      sym f ∙ place_is

-- ---- 18, then 19

module _ (T L H : List ℕ) (m : ℕ) (f : Option ℕ) (is : f ≡ found_below m (first (loose_in T L) 0 m)) (v : Verdict) (so : v ≡ finding_verdict LOOSE_SYMBOL NONE f) where
  loose_is : v ≡ finding_verdict LOOSE_SYMBOL NONE (found_below m (first (loose_in T L) 0 m))
  loose_is = so ∙ ap (finding_verdict LOOSE_SYMBOL NONE) is

  pub verdict_18 : (x y p : ℕ) → v ≡ Refused x y p → v ≡ verdict_in T L H m
  unfolding verdict_in
  verdict_18 x y p e = e ∙ sym (also_refused _ _ x y p (sym loose_is ∙ e))

  pub verdict_19 : v ≡ Passed → (g : Option ℕ) → g ≡ found_below m (first (elsewhere_in T L H) 0 m) → (w : Verdict) → w ≡ finding_verdict NAME_TWICE NONE g → w ≡ verdict_in T L H m
  unfolding verdict_in
  verdict_19 e g at w q = q ∙ ap (finding_verdict NAME_TWICE NONE) at ∙ sym (also_passed _ _ (sym loose_is ∙ e))
