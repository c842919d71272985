-- Which entries stay, by their goals: C's that do not start at a word written anew, and all of A's. Assumes nothing.
use Prim.Native.Nat.{ℕ}
use mathlib.Core.Path.{◌≡◌, refl, sym, ap, ◌∙◌}
use mathlib.Core.Bool.{true, false, not, ◌&&◌}
use mathlib.Core.List.{List}
use lib.Dec.{eqb}
use borrow.Author.Tests.{not-true}
use Rattle.base_lists.proofs.Ranges.{by-test, both}
use Rattle.base_fields.specs.declared.ByteOrder.{ByteOrder}
use Rattle.base_scope.specs.Codes.{LATE_RODATA}
use Rattle.elf_readers.specs.Readers.{section}
use Rattle.elf_relocations.specs.Relocations.{relocation}
use Rattle.blocks_places.specs.Places.{Place}
use Rattle.late_length.specs.Late.{has_late_step}
use Rattle.late_moves.specs.Moved.{is_moved}
use Rattle.merge_labels.specs.Labels.{late_start}
use Rattle.symbols_taken.specs.Used.{code_of}
use Rattle.symbols_ids.specs.Entries.{late_place}
use Rattle.demand_clauses.specs.of_carry_entries.declared.Goal.{Goal}
use Rattle.demand_clauses.specs.of_carry_entries.Entries.{is_left_out, is_stuck, goal_place, entry_goal, is_kept}
use Rattle.demand_clauses.specs.of_carry_entries.Carried.{is_gone, goal_c, goal_a, carrying_c, carrying_a}
use Rattle.demand_clauses.specs.TakenOver.{stays_c}

module _ (o : ByteOrder) (C A : List ℕ) (P : List Place) (B : List ℕ) where
  -- ---- goals

  -- C's is left out where its word is written anew, and stays where it is otherwise; A's is never left out
  left_c : (c x : ℕ) → is_left_out (goal_c o C A P B c x) ≡ is_gone o C A P B c x
  unfolding goal_c is_left_out
  left_c c x = by-test (is_gone o C A P B c x) (λ t. rw t) (λ f. rw f)

  place_c_lem : (c x : ℕ) → is_gone o C A P B c x ≡ false → goal_place (goal_c o C A P B c x) ≡ x
  unfolding goal_c goal_place
  place_c_lem c x f = rw f

  left_a : (c x : ℕ) → is_left_out (goal_a o C A P B c x) ≡ false
  unfolding goal_a is_left_out
  left_a c x = by-test (eqb c LATE_RODATA)
      (λ t. by-test (has_late_step P B && is_moved P B (late_start o A) x) (λ y. rw (t, y)) (λ f. rw (t, f)))
      (λ f. rw f)

  -- an offset of another section than the late one stays
  place_a_lem : (c x : ℕ) → eqb c LATE_RODATA ≡ false → goal_place (goal_a o C A P B c x) ≡ x
  unfolding goal_a goal_place
  place_a_lem c x f = rw f

  -- a late one that goes anywhere is moved, to its late place
  moved_a : (c x : ℕ) → eqb c LATE_RODATA ≡ true → is_stuck (goal_a o C A P B c x) ≡ false → (has_late_step P B && is_moved P B (late_start o A) x) ≡ true
  unfolding goal_a is_stuck
  moved_a c x t s = by-test (has_late_step P B && is_moved P B (late_start o A) x)
      (λ y. y)
      (λ f. both refl (rw (t, f) at s))

  late_a : (c x : ℕ) → eqb c LATE_RODATA ≡ true → (has_late_step P B && is_moved P B (late_start o A) x) ≡ true → goal_place (goal_a o C A P B c x) ≡ late_place o C A P B x
  unfolding goal_a goal_place
  late_a c x t y = rw (t, y)

  -- ---- entries

  module _ (mode head t k : ℕ) where
    abbrev code_c : ℕ
    code_c = code_of o C (section o C t).sh_info

    abbrev offset_c : ℕ
    offset_c = (relocation o C t k).r_offset

    abbrev code_a : ℕ
    code_a = code_of o A (section o A t).sh_info

    abbrev offset_a : ℕ
    offset_a = (relocation o A t k).r_offset

    -- where it goes
    pub goal_c_lem : entry_goal o C (carrying_c o C A P B mode head) t k ≡ goal_c o C A P B code_c offset_c
    unfolding entry_goal carrying_c
    goal_c_lem = refl

    pub goal_a_lem : entry_goal o A (carrying_a o C A P B mode head) t k ≡ goal_a o C A P B code_a offset_a
    unfolding entry_goal carrying_a
    goal_a_lem = refl

    -- C's is kept where it stays, and every one of A's is
    pub kept_c : stays_c o C A P B t k ≡ is_kept o C (carrying_c o C A P B mode head) t k
    unfolding is_kept stays_c
    kept_c = sym (ap (λ (g : Goal). not (is_left_out g)) goal_c_lem ∙ ap not (left_c code_c offset_c))

    pub kept_a : is_kept o A (carrying_a o C A P B mode head) t k ≡ true
    unfolding is_kept
    kept_a = ap (λ (g : Goal). not (is_left_out g)) goal_a_lem ∙ ap not (left_a code_a offset_a)

    -- where C's that stay stand
    pub place_stays : stays_c o C A P B t k ≡ true → goal_place (entry_goal o C (carrying_c o C A P B mode head) t k) ≡ offset_c
    unfolding stays_c
    place_stays y = ap goal_place goal_c_lem ∙ place_c_lem code_c offset_c (not-true (is_gone o C A P B code_c offset_c) y)

    -- where A's do: another than a late one at its offset, a late one at its moved place
    pub place_still : eqb code_a LATE_RODATA ≡ false → goal_place (entry_goal o A (carrying_a o C A P B mode head) t k) ≡ offset_a
    place_still f = ap goal_place goal_a_lem ∙ place_a_lem code_a offset_a f

    pub late_moved : eqb code_a LATE_RODATA ≡ true → is_stuck (entry_goal o A (carrying_a o C A P B mode head) t k) ≡ false
        → (has_late_step P B && is_moved P B (late_start o A) offset_a) ≡ true
    late_moved y s = moved_a code_a offset_a y (sym (ap is_stuck goal_a_lem) ∙ s)

    pub place_late : eqb code_a LATE_RODATA ≡ true → (has_late_step P B && is_moved P B (late_start o A) offset_a) ≡ true
        → goal_place (entry_goal o A (carrying_a o C A P B mode head) t k) ≡ late_place o C A P B offset_a
    place_late y m = ap goal_place goal_a_lem ∙ late_a code_a offset_a y m
