-- A reference by its object, C or A: where it stands there, and where the result has it. Assumes nothing.
use Prim.Native.Nat.{ℕ}
use mathlib.Core.Path.{◌≡◌, ap}
use mathlib.Core.Bool.{true, false, cond, ◌&&◌}
use mathlib.Core.List.{List}
use lib.Dec.{eqb}
use Rattle.base_fields.specs.declared.ByteOrder.{ByteOrder}
use Rattle.base_scope.specs.Codes.{LATE_RODATA, target_code}
use Rattle.elf_readers.specs.Readers.{section, coded_section}
use Rattle.elf_relocations.specs.Relocations.{relocation}
use Rattle.blocks_places.specs.Places.{Place}
use Rattle.late_length.specs.Late.{has_late_step}
use Rattle.late_moves.specs.Moved.{is_moved}
use Rattle.merge_labels.specs.Labels.{late_start}
use Rattle.carry_entries.specs.of_symbols_taken.Used.{code_of}
use Rattle.carry_entries.specs.of_symbols_ids.Entries.{late_place}
use Rattle.demand_clauses.specs.Reading.{Reference}
use Rattle.demand_clauses.specs.TakenOver.{is_compiled, object_of, source_of, reference_code, offset_of, is_late_reference, target_of, has_offset, new_offset}

module _ (o : ByteOrder) (C A : List ℕ) (P : List Place) (B : List ℕ) (r : Reference) where
  -- of the object F
  module _ (F : List ℕ) (is : object_of o C A P B r ≡ F) where
    pub source_of_lem : source_of o C A P B r ≡ (section o F r.table).sh_info
    unfolding source_of
    source_of_lem = ap (λ (x : List ℕ). (section o x r.table).sh_info) is

    pub code_of_lem : reference_code o C A P B r ≡ code_of o F (section o F r.table).sh_info
    unfolding reference_code source_of
    code_of_lem = ap (λ (x : List ℕ). code_of o x (section o x r.table).sh_info) is

    pub offset_of_lem : offset_of o C A P B r ≡ (relocation o F r.table r.entry).r_offset
    unfolding offset_of
    offset_of_lem = ap (λ (x : List ℕ). (relocation o x r.table r.entry).r_offset) is

  module _ (y : is_compiled o C A P B r ≡ true) where
    -- of C
    pub object_c : object_of o C A P B r ≡ C
    unfolding object_of
    object_c = rw y

    pub target_c : target_of o C A P B r ≡ (section o C r.table).sh_info
    unfolding target_of
    target_c = rw y (source_of_lem C object_c)

    pub moved_c : has_offset o C A P B r ≡ true
    unfolding has_offset is_late_reference
    moved_c = rw y

    pub place_c_lem : new_offset o C A P B r ≡ (relocation o C r.table r.entry).r_offset
    unfolding new_offset is_late_reference
    place_c_lem = rw y (offset_of_lem C object_c)

  module _ (f : is_compiled o C A P B r ≡ false) where
    abbrev code : ℕ
    code = code_of o A (section o A r.table).sh_info

    abbrev offset : ℕ
    offset = (relocation o A r.table r.entry).r_offset

    -- of A
    pub object_a : object_of o C A P B r ≡ A
    unfolding object_of
    object_a = rw f

    pub target_a : target_of o C A P B r ≡ coded_section o C (target_code code)
    unfolding target_of
    target_a = rw f (ap (λ (x : ℕ). coded_section o C (target_code x)) (code_of_lem A object_a))

    pub late_is : is_late_reference o C A P B r ≡ eqb code LATE_RODATA
    unfolding is_late_reference
    late_is = rw f (ap (λ (x : ℕ). eqb x LATE_RODATA) (code_of_lem A object_a))

    pub moved_a : has_offset o C A P B r ≡ cond (eqb code LATE_RODATA) (has_late_step P B && is_moved P B (late_start o A) offset) true
    unfolding has_offset
    moved_a = rw (late_is, offset_of_lem A object_a)

    pub place_a_lem : new_offset o C A P B r ≡ cond (eqb code LATE_RODATA) (late_place o C A P B offset) offset
    unfolding new_offset
    place_a_lem = rw (late_is, offset_of_lem A object_a)
