-- The word of a reference stays: where its four bytes lie in its section of the merged object and are its own, they are those of its object. C's are not written over, A's come with
-- the span or the late item that they lie in. Assumes nothing.
use Prim.Native.Nat.{ℕ, ◌+◌, ◌≤◌, ◌<◌}
use mathlib.Core.Path.{◌≡◌, ap, ◌∙◌}
use mathlib.Core.Bool.{true, false}
use mathlib.Core.List.{List}
use native.Mathlib.Omega.{arith}
use lib.ListN.{length}
use lib.Dec.{eqb}
use borrow.Author.Tests.{eqb-true, eqb-false, ltb-true}
use Rattle.base_lists.proofs.Ranges.{by-test, by-lt, and_parts}
use Rattle.base_fields.specs.declared.ByteOrder.{ByteOrder}
use Rattle.base_scope.specs.Codes.{BSS, LATE_RODATA, LINES, target_code}
use Rattle.elf_readers.specs.Readers.{order_of, section, contents, has_code, coded_contents}
use Rattle.elf_relocations.specs.Relocations.{relocation}
use Rattle.elf_check.specs.Sound.{Sound}
use Rattle.blocks_places.specs.Places.{Place, places_of}
use Rattle.late_length.specs.Late.{has_late_step}
use Rattle.symbols_taken.specs.Used.{code_of, is_source_table}
use Rattle.carry_clash.specs.Clash.{carried_code, is_carried}
use Rattle.carry_homes.proofs.Tables.{code_first, code_last}
use Rattle.merge_verdict.specs.of_write_plan.Plan.{merged_object}
use Rattle.merge_verdict.specs.Verdict.{MergePassed}
use Rattle.demand_clauses.specs.Reading.{Reference, word_at}
use Rattle.demand_clauses.specs.TakenOver.{is_owed, is_compiled, object_of, source_of, offset_of, target_of, has_offset, new_offset, keeps_word}
use Rattle.demand_clauses.proofs.Owed.{owed_compiled, owed_assembled}
use Rattle.demand_clauses.proofs.References.{object_c, source_of_lem, offset_of_lem, target_c, place_c_lem, object_a}
use Rattle.demand_words.proofs.Sections.{bss_empty}
use Rattle.demand_words.proofs.Words.{none_stale, entry_code, own_word, copied_word, late_word_lem}
use Rattle.demand_words.proofs.References.{untouched_c, new_a, target_own, copied_a, new_late, target_late, moved_late, whole_a}

module _ (C A B path : List ℕ) (flag mode : ℕ) (O : List ℕ) (p : MergePassed C A B path flag mode O) (r : Reference) where
  abbrev o : ByteOrder
  o = order_of C

  abbrev P : List Place
  P = places_of (order_of C) C B

  abbrev merged : List ℕ
  merged = merged_object (order_of C) C A (places_of (order_of C) C B) B path flag mode

  abbrev sound : Sound (order_of C) C
  sound = p.inputs.opened.sound

  module _ (y : is_compiled o C A P B r ≡ true) where
    code_c_lem : is_owed o C A P B r ≡ true → code_of o C (section o C r.table).sh_info ≤ LINES
    code_c_lem w =
        let e = owed_compiled o C A P B r w y in
        entry_code o C r.table r.entry (none_stale o C A flag p.unclashed r.table e.below) e.table e.entry

    word_c : is_owed o C A P B r ≡ true → new_offset o C A P B r + 4 ≤ length (contents o merged (target_of o C A P B r)) → keeps_word o C A P B r ≡ true
        → word_at o merged (target_of o C A P B r) (new_offset o C A P B r) ≡ word_at o (object_of o C A P B r) (source_of o C A P B r) (offset_of o C A P B r)
    word_c w room keeps =
        let object = object_c o C A P B r y in
        let target = target_c o C A P B r y in
        let new = place_c_lem o C A P B r y in
        rw (target, new, object, source_of_lem o C A P B r C object, offset_of_lem o C A P B r C object)
        (own_word o C A B path flag mode sound p.movable (section o C r.table).sh_info (relocation o C r.table r.entry).r_offset (code_c_lem w)
        (rw (target, new) at room) (untouched_c o C A P B r y keeps))

  module _ (n : is_compiled o C A P B r ≡ false) where
    abbrev table : ℕ
    table = r.table

    abbrev code : ℕ
    code = code_of o A (section o A r.table).sh_info

    -- its section is one of the five and holds bytes, so it is not .bss
    some_a : is_carried o A table ≡ true → 0 < length (coded_contents o A code)
    unfolding is_carried carried_code
    some_a t = ltb-true 0 (length (coded_contents o A code)) (and_parts (is_source_table o A table) _ t).1

    front_a : is_carried o A table ≡ true → eqb code LATE_RODATA ≡ false → code < BSS
    unfolding carried_code
    front_a t other =
        let high : code ≤ LATE_RODATA = code_last o A table t in
        by-lt code BSS (λ h. h) (λ h.
        let e : code ≡ BSS = omega (arith, h, high, eqb-false code LATE_RODATA other) in
        let z : length (coded_contents o A code) ≡ 0 = ap length (ap (coded_contents o A) e ∙ bss_empty o A p.inputs.assembled) in
        absurd (omega (arith, z, some_a t)))

    there_a : is_carried o A table ≡ true → eqb code LATE_RODATA ≡ false → has_code o C code ≡ true
    unfolding carried_code target_code
    there_a t other = rw other at (p.agrees.complete.targets code (code_first o A table) (code_last o A table t) (some_a t))

    word_a : is_owed o C A P B r ≡ true → has_offset o C A P B r ≡ true → keeps_word o C A P B r ≡ true
        → word_at o merged (target_of o C A P B r) (new_offset o C A P B r) ≡ word_at o (object_of o C A P B r) (source_of o C A P B r) (offset_of o C A P B r)
    word_a w offset keeps =
        let s : ℕ = (section o A table).sh_info in
        let x : ℕ = (relocation o A table r.entry).r_offset in
        let object = object_a o C A P B r n in
        let carried = (owed_assembled o C A P B r w n).table in
        by-test (eqb code LATE_RODATA)
        (λ late.
        let moved = and_parts (has_late_step P B) _ (moved_late o C A P B r n late offset) in
        rw (target_late o C A P B r n late, new_late o C A P B r n late, object, source_of_lem o C A P B r A object, offset_of_lem o C A P B r A object)
        (late_word_lem o C A B path flag mode sound p.movable p.inputs.opened.placed p.agrees s x (eqb-true code LATE_RODATA late) moved.0 moved.1 (p.moved moved.0)
        (whole_a o C A P B r n late keeps)))
        (λ other.
        rw (target_own o C A P B r n other, new_a o C A P B r n other, object, source_of_lem o C A P B r A object, offset_of_lem o C A P B r A object)
        (copied_word o C A B path flag mode sound p.movable p.inputs.opened.placed p.agrees s x (front_a carried other) (there_a carried other)
        (copied_a o C A P B r n other keeps)))

  -- a reference that the result owes has its word there
  pub word_kept : is_owed o C A P B r ≡ true → has_offset o C A P B r ≡ true → new_offset o C A P B r + 4 ≤ length (contents o O (target_of o C A P B r)) → keeps_word o C A P B r ≡ true
      → word_at o O (target_of o C A P B r) (new_offset o C A P B r) ≡ word_at o (object_of o C A P B r) (source_of o C A P B r) (offset_of o C A P B r)
  word_kept w offset room keeps =
      let inside : new_offset o C A P B r + 4 ≤ length (contents o merged (target_of o C A P B r)) = rw p.object at room in
      ap (λ (F : List ℕ). word_at o F (target_of o C A P B r) (new_offset o C A P B r)) p.object
      ∙ by-test (is_compiled o C A P B r) (λ y. word_c y w inside keeps) (λ n. word_a n w offset keeps)
