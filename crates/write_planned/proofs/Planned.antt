-- The names of new sections by the homes in hand, and what a section of the result holds. Assumes nothing.
use Prim.Native.Nat.{ℕ, ◌≤◌, ◌<◌}
use mathlib.Core.Path.{◌≡◌, sym, ap, ◌∙◌}
use mathlib.Core.Bool.{Bool, true, false, not, ◌||◌}
use mathlib.Core.List.{List, [], ◌++◌}
use native.Mathlib.Omega.{arith}
use lib.Dec.{ltb}
use borrow.Author.Tests.{lt-ltb, le-ltb, eq-eqb, ne_eqb}
use Rattle.base_lists.proofs.Ranges.{by-lt, both}
use Rattle.base_fields.specs.declared.ByteOrder.{ByteOrder}
use Rattle.elf_readers.specs.Readers.{header}
use Rattle.elf_relocations.specs.Relocations.{is_table}
use Rattle.elf_check.specs.declared.View.{View}
use Rattle.elf_check.specs.View.{view_of}
use Rattle.merge_kept.specs.Kept.{kept}
use Rattle.merge_kept.proofs.Kept.{kept_le}
use Rattle.carry_homes.specs.Homes.{new_count}
use Rattle.carry_homes.proofs.Joins.{new_few}
use Rattle.carry_homes.proofs.Tables.{carried_few}
use Rattle.carry_stage.specs.Tables.{homes_part}
use Rattle.write_content.specs.Content.{new_names_in, NewRows}
use Rattle.write_content.proofs.Content.{new_rows, new_names_are}
use Rattle.write_plan.specs.Plan.{new_names, is_planned_table, added_names, planned_bytes}
use Rattle.write_planned.specs.declared.Writing.{Writing}
use Rattle.write_planned.specs.Held.{PlanHeld, held_is_table, held_table, held_own, held_names, held_bytes}

-- ---- is it a table

module _ (o : ByteOrder) (C : List ℕ) (stay i : ℕ) where
  pub table_stays : (r : Bool) → i < stay → r ≡ is_table o C i → r ≡ (not (ltb i stay) || is_table o C i)
  table_stays r l e = rw (lt-ltb i stay l) e

  pub table_new : stay ≤ i → true ≡ (not (ltb i stay) || is_table o C i)
  table_new l = rw (le-ltb i stay l)

  pub own_stays : (not (ltb i stay) || is_table o C i) ≡ false → i < stay
  own_stays e = by-lt i stay (λ l. l) (λ l. both (sym (table_new l)) e)

module _ (C A B path : List ℕ) (x : Writing) (table places steps index : List ℕ) (h : PlanHeld C A B path x table places steps index) where
  abbrev o : ByteOrder
  o = x.stage.inputs.order

  abbrev stay : ℕ
  stay = kept o C x.flag

  pub stay_below : x.carry.stay ≤ 128
  stay_below = omega (arith, h.carried.stays, kept_le o C x.flag, h.read.read.compiled.named.headed.few)

  opened_is : x.carry.homes.opened ≡ new_count o C A stay
  opened_is = h.carried.found.opened ∙ ap (new_count o C A) h.carried.stays

  pub opened_below : x.carry.homes.opened ≤ 128
  opened_below = omega (arith, opened_is, new_few o C A stay, carried_few o A, h.read.read.assembled.named.headed.few)

  -- ---- the names of new sections

  module _ (homes : List ℕ) (e : homes ≡ homes_part places) (many : ℕ) (few : many ≤ x.carry.homes.opened) where
    few_new : many ≤ new_count o C A x.carry.stay
    few_new = omega (arith, few, h.carried.found.opened)

    pub names_asked : NewRows o A homes x.carry.homes.tables x.carry.stay many
    names_asked = rw e (new_rows o C A x.carry.stay (homes_part places) h.carried.found.listed x.carry.homes.tables h.carried.found.tables many few_new
        stay_below h.read.read.assembled.named.headed.few)

    pub names_here : new_names_in o A homes x.carry.homes.tables x.carry.stay many ≡ new_names o C A stay many
    unfolding new_names
    names_here = rw e (new_names_are o C A x.carry.stay (homes_part places) h.carried.found.listed x.carry.homes.tables h.carried.found.tables many few_new
        ∙ ap (λ (n : ℕ). new_names o C A n many) h.carried.stays)

  pub strings_at : x.stage.inputs.compiled.section_strings ≡ (header o C).e_shstrndx
  unfolding view_of
  strings_at = ap (λ (v : View). v.section_strings) h.read.read.compiled.is

  module _ (i : ℕ) where
    pub names_added : i ≡ x.stage.inputs.compiled.section_strings → new_names o C A stay x.carry.homes.opened ≡ held_names C A B path x places i
    unfolding added_names
    names_added e = rw (eq-eqb i (header o C).e_shstrndx (e ∙ strings_at)) (ap (new_names o C A stay) opened_is)

    pub names_none : (i ≡ x.stage.inputs.compiled.section_strings → ⊥) → [] ≡ held_names C A B path x places i
    unfolding added_names
    names_none n = rw (ne_eqb i (header o C).e_shstrndx (λ e. n (e ∙ sym strings_at)))

    -- ---- what a section holds

    module _ (r : Bool) (e : r ≡ (not (ltb i x.carry.stay) || is_table o C i)) where
      is_planned_lem : r ≡ held_is_table C A B path x places i
      unfolding is_planned_table
      is_planned_lem = e ∙ ap (λ (n : ℕ). not (ltb i n) || is_table o C i) h.carried.stays

      pub planned_as : r ≡ true → held_is_table C A B path x places i ≡ true
      planned_as t = sym is_planned_lem ∙ t

      pub planned_table : r ≡ true → held_table C A B path x places i ≡ held_bytes C A B path x places i
      unfolding planned_bytes
      planned_table t = rw (sym is_planned_lem ∙ t)

      pub planned_own : r ≡ false → held_own C A B path x places i ++ held_names C A B path x places i ≡ held_bytes C A B path x places i
      unfolding planned_bytes
      planned_own f = rw (sym is_planned_lem ∙ f)

      pub planned_stays : r ≡ false → i < x.carry.stay
      planned_stays f = own_stays o C x.carry.stay i (sym e ∙ f)
