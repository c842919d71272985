-- What refusals 2, 3 and 4 leave true of an object that they do not refuse: every section and every name is sound, and the bounds that reading it
-- relies on. Each search that found no fault ended at its bound, so no index below it is at fault. Assumes nothing.
use Rattle.std.specs.Prelude.{None}
use mathlib.Core.Path.{◌≡◌}
use mathlib.Core.Bool.{true, false, not, ◌&&◌}
use mathlib.Core.Logic.{◌≢◌}
use mathlib.Core.List.{List}
use Prim.Native.Nat.{ℕ, ◌+◌, ◌≤◌, ◌<◌}
use native.Mathlib.Omega.{arith}
use lib.ListN.{length}
use lib.Dec.{leb, eqb, ltb}
use borrow.Author.Tests.{leb-true, ltb-true, ne_eqb, eqb-true, lt-ltb, not-false}
use Rattle.base_lists.specs.Ranges.{least}
use Rattle.base_lists.specs.Strings.{has_end, ascii}
use Rattle.base_lists.proofs.Ranges.{by-test, and_parts, least_below}
use Rattle.base_fields.specs.declared.ByteOrder.{ByteOrder}
use Rattle.base_scope.specs.Limits.{SECTION_LIMIT}
use Rattle.base_scope.specs.Elf.{SHT_NOBITS}
use Rattle.base_scope.specs.Codes.{code_type, CODES}
use Rattle.base_scope.proofs.Refusals.{expect_clear, found_clear, none_found}
use Rattle.elf_readers.specs.Readers.{header, section_count, header_place, section, is_strtab, section_strings, section_name, coded_section}
use Rattle.elf_readers.specs.Bounds.{Headed, Named}
use Rattle.elf_readers.proofs.Readers.{strtab_lt}
use Rattle.elf_header.specs.FileHeader.{header_fault}
use Rattle.elf_sections.specs.Headers.{null_section_sound, unlinked, whole_entries, bytes_inside, header_sound, section_sound, bad_section, count_sound, section_fault}
use Rattle.elf_sections.specs.Names.{name_sound, bad_name, name_fault, mistyped, coded_after, type_fault}
use Rattle.elf_header.proofs.FileHeader.{header_long}

module _ (o : ByteOrder) (F : List ℕ) where
  -- ---- sections

  pub counted : section_fault o F ≡ None → (1 ≤ section_count o F) × (section_count o F ≤ SECTION_LIMIT)
  unfolding section_fault count_sound
  counted e =
      let t = (expect_clear _ 0 _ e).0 in
      let r = and_parts (leb 1 (section_count o F)) (leb (section_count o F) SECTION_LIMIT) t in
      (leb-true _ _ r.0, leb-true _ _ r.1)

  pub sections_sound : section_fault o F ≡ None → (i : ℕ) → i < section_count o F → section_sound o F i ≡ true
  unfolding section_fault bad_section
  sections_sound e i l = sound_of i (none_found (bad_section o F) (section_count o F) (expect_clear _ 0 _ e).1 i l)
    where
      sound_of : (i : ℕ) → bad_section o F i ≡ false → section_sound o F i ≡ true
      sound_of i b = not-false (section_sound o F i) b

  -- the parts of a sound section
  module _ (i : ℕ) (s : section_sound o F i ≡ true) where
    inside_and : (leb (header_place o F i + 40) (length F) ≡ true) × (header_sound (length F) i (section o F i) ≡ true)
    unfolding section_sound
    inside_and = and_parts (leb (header_place o F i + 40) (length F)) _ s

    pub sound_inside : header_place o F i + 40 ≤ length F
    sound_inside = leb-true _ _ inside_and.0

    pub sound_null : null_section_sound i (section o F i) ≡ true
    unfolding header_sound
    sound_null = (and_parts (null_section_sound i (section o F i)) _ inside_and.1).0

    after_null : (unlinked (section o F i) && (whole_entries (section o F i) && (bytes_inside (length F) (section o F i) && leb (section o F i).sh_addralign 65536))) ≡ true
    unfolding header_sound
    after_null = (and_parts (null_section_sound i (section o F i)) _ inside_and.1).1

    after_unlinked : (whole_entries (section o F i) && (bytes_inside (length F) (section o F i) && leb (section o F i).sh_addralign 65536)) ≡ true
    after_unlinked = (and_parts (unlinked (section o F i)) _ after_null).1

    pub sound_entries : whole_entries (section o F i) ≡ true
    sound_entries = (and_parts (whole_entries (section o F i)) _ after_unlinked).0

    after_entries : (bytes_inside (length F) (section o F i) && leb (section o F i).sh_addralign 65536) ≡ true
    after_entries = (and_parts (whole_entries (section o F i)) _ after_unlinked).1

    pub sound_aligned : (section o F i).sh_addralign ≤ 65536
    sound_aligned = leb-true _ _ (and_parts (bytes_inside (length F) (section o F i)) _ after_entries).1

    pub sound_held : (section o F i).sh_type ≢ SHT_NOBITS → (section o F i).sh_offset + (section o F i).sh_size ≤ length F
    unfolding bytes_inside
    sound_held n =
        let b = (and_parts (bytes_inside (length F) (section o F i)) (leb (section o F i).sh_addralign 65536) after_entries).0 in
        leb-true _ _ (rw (ne_eqb _ _ n) at b)

  pub headed_of : header_fault o F ≡ None → section_fault o F ≡ None → Headed o F
  headed_of h s = record {
    whole = header_long o F h;
    few = (counted s).1;
    inside = λ i l. sound_inside i (sections_sound s i l);
    held = λ i l n. sound_held i (sections_sound s i l) n;
  }

  -- ---- names

  pub named_of : Headed o F → name_fault o F ≡ None → Named o F
  unfolding name_fault
  named_of h e = record { headed = h; strings = strtab_lt o F (header o F).e_shstrndx (expect_clear _ 0 _ e).0 }

  pub names_strings : name_fault o F ≡ None → is_strtab o F (header o F).e_shstrndx ≡ true
  unfolding name_fault
  names_strings e = (expect_clear _ 0 _ e).0

  pub names_sound : name_fault o F ≡ None → (i : ℕ) → i < section_count o F → (has_end (section_strings o F) (section o F i).sh_name ≡ true) × (ascii (section_name o F i) ≡ true)
  unfolding name_fault bad_name name_sound
  names_sound e i l = parts i (none_found (bad_name o F) (section_count o F) (expect_clear _ 0 _ e).1 i l)
    where
      parts : (i : ℕ) → bad_name o F i ≡ false → (has_end (section_strings o F) (section o F i).sh_name ≡ true) × (ascii (section_name o F i) ≡ true)
      parts i b = and_parts (has_end (section_strings o F) (section o F i).sh_name) (ascii (section_name o F i)) (not-false (name_sound o F i) b)

  -- ---- types

  -- no section of a code is mistyped
  pub none_mistyped : type_fault o F ≡ None → (i : ℕ) → i < CODES → mistyped o F i ≡ false
  unfolding type_fault mistyped coded_after
  none_mistyped e i l = by-test (mistyped o F i)
      (λ t.
      let b : least (coded_after o F) (mistyped o F) (section_count o F) CODES ≤ coded_after o F i = least_below (coded_after o F) (mistyped o F) (section_count o F) CODES i l t in
      let g : section_count o F ≤ least (coded_after o F) (mistyped o F) (section_count o F) CODES = found_clear _ _ e in
      let u : coded_after o F i < section_count o F = present i t in
      absurd (omega arith))
      (λ t. t)
    where
      present : (i : ℕ) → mistyped o F i ≡ true → coded_after o F i < section_count o F
      present i t = ltb-true (coded_section o F (i + 1)) (section_count o F) (and_parts (ltb (coded_section o F (i + 1)) (section_count o F)) _ t).0

  -- the section of a code has the type that document 01 asks
  pub types_sound : type_fault o F ≡ None → (i : ℕ) → i < CODES → coded_section o F (i + 1) < section_count o F → (section o F (coded_section o F (i + 1))).sh_type ≡ code_type (i + 1)
  unfolding mistyped
  types_sound e i l u =
      let m : (ltb (coded_section o F (i + 1)) (section_count o F) && not (eqb (section o F (coded_section o F (i + 1))).sh_type (code_type (i + 1)))) ≡ false = none_mistyped e i l in
      let n : not (eqb (section o F (coded_section o F (i + 1))).sh_type (code_type (i + 1))) ≡ false = rw (lt-ltb _ _ u) at m in
      eqb-true _ _ (not-false _ n)
