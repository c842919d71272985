-- The test of a reference's word, by its object and code; and where one of A goes, by whether it is late. Assumes nothing.
use Prim.Native.Nat.{ℕ, ◌+◌}
use mathlib.Core.Path.{◌≡◌, sym, ◌∙◌}
use mathlib.Core.Bool.{true, false, ◌&&◌}
use mathlib.Core.List.{List}
use lib.ListN.{length}
use lib.Dec.{eqb, ltb, leb}
use borrow.Author.Tests.{eqb-true}
use Rattle.base_lists.specs.Ranges.{first}
use Rattle.base_lists.specs.Rows.{has_row}
use Rattle.base_fields.specs.declared.ByteOrder.{ByteOrder}
use Rattle.base_scope.specs.Codes.{LATE_RODATA, LATE_TARGET, target_code}
use Rattle.elf_readers.specs.Readers.{section, coded_section, coded_contents}
use Rattle.elf_relocations.specs.Relocations.{relocation}
use Rattle.blocks_file.specs.Blocks.{block_count}
use Rattle.blocks_places.specs.Places.{Place}
use Rattle.blocks_spans.specs.Spans.{spans_of, span_at, span_end}
use Rattle.late_length.specs.Late.{has_late_step}
use Rattle.late_moves.specs.Moves.{items, item_length, move_source}
use Rattle.late_moves.specs.Moved.{is_moved}
use Rattle.late_finals.specs.Finals.{is_written}
use Rattle.merge_labels.specs.Labels.{late_start}
use Rattle.symbols_taken.specs.Used.{code_of}
use Rattle.symbols_ids.specs.Entries.{late_place}
use Rattle.demand_clauses.specs.Reading.{Reference}
use Rattle.demand_clauses.specs.TakenOver.{is_compiled, reference_code, offset_of, target_of, has_offset, new_offset, is_untouched, is_copied, is_moved_whole, keeps_word}
use Rattle.demand_clauses.proofs.References.{object_c, code_of_lem, offset_of_lem, object_a, target_a, late_is, moved_a, place_a_lem}

module _ (o : ByteOrder) (C A : List ℕ) (P : List Place) (B : List ℕ) (r : Reference) where
  -- ---- C's

  module _ (y : is_compiled o C A P B r ≡ true) where
    abbrev code_c : ℕ
    code_c = code_of o C (section o C r.table).sh_info

    pub untouched_c : keeps_word o C A P B r ≡ true
        → first (λ j. is_written o P B (coded_contents o C code_c) (coded_contents o A code_c) code_c ((relocation o C r.table r.entry).r_offset + j)) 0 4 ≡ 4
    unfolding keeps_word is_untouched
    untouched_c t =
        let object = object_c o C A P B r y in
        eqb-true _ 4 (rw (y, code_of_lem o C A P B r C object, offset_of_lem o C A P B r C object) at t)

  -- ---- A's

  module _ (n : is_compiled o C A P B r ≡ false) where
    abbrev code : ℕ
    code = code_of o A (section o A r.table).sh_info

    abbrev offset : ℕ
    offset = (relocation o A r.table r.entry).r_offset

    code_a_lem : reference_code o C A P B r ≡ code
    code_a_lem = code_of_lem o C A P B r A (object_a o C A P B r n)

    offset_a_lem : offset_of o C A P B r ≡ offset
    offset_a_lem = offset_of_lem o C A P B r A (object_a o C A P B r n)

    module _ (other : eqb code LATE_RODATA ≡ false) where
      pub new_a : new_offset o C A P B r ≡ offset
      new_a = place_a_lem o C A P B r n ∙ rw other

      pub target_own : target_of o C A P B r ≡ coded_section o C code
      unfolding target_code
      target_own = target_a o C A P B r n ∙ rw other

      pub copied_a : keeps_word o C A P B r ≡ true
          → ltb (first (λ i. leb (span_at (spans_of P B code) i).place offset && leb (offset + 4) (span_end (span_at (spans_of P B code) i))) 0 (length (spans_of P B code)))
          (length (spans_of P B code)) ≡ true
      unfolding keeps_word is_copied
      copied_a t = rw (n, late_is o C A P B r n, other, code_a_lem, offset_a_lem) at t

    module _ (late : eqb code LATE_RODATA ≡ true) where
      pub new_late : new_offset o C A P B r ≡ late_place o C A P B offset
      new_late = place_a_lem o C A P B r n ∙ rw late

      pub target_late : target_of o C A P B r ≡ coded_section o C LATE_TARGET
      unfolding target_code
      target_late = target_a o C A P B r n ∙ rw late

      pub moved_late : has_offset o C A P B r ≡ true → (has_late_step P B && is_moved P B (late_start o A) offset) ≡ true
      moved_late t = rw late at (sym (moved_a o C A P B r n) ∙ t)

      pub whole_a : keeps_word o C A P B r ≡ true
          → has_row (λ i k. leb (move_source P B (late_start o A) i k) offset && leb (offset + 4) (move_source P B (late_start o A) i k + item_length B i k)) (items P B) (block_count B) ≡ true
      unfolding keeps_word is_moved_whole
      whole_a t = rw (n, late_is o C A P B r n, late, offset_a_lem) at t
