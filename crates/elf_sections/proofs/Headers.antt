-- Laws of refusal 3's first part. Assumes nothing.
use Rattle.std.specs.Prelude.{Some}
use mathlib.Core.Path.{◌≡◌, sym}
use mathlib.Core.Bool.{true, false, not, ◌&&◌}
use mathlib.Core.List.{List}
use Prim.Native.Nat.{ℕ, ◌+◌, ◌%◌, ◌≤◌, ◌<◌}
use lib.ListN.{length}
use lib.Dec.{eqb, leb}
use borrow.Author.Tests.{eq-eqb, ne_eqb, lt-leb, le-leb}
use Rattle.base_fields.specs.declared.ByteOrder.{ByteOrder}
use Rattle.elf_records.specs.declared.section.SectionHeader.{SectionHeader}
use Rattle.base_scope.specs.Elf.{SHT_NULL, SHT_NOBITS}
use Rattle.elf_readers.specs.Readers.{section_count, header_place, section}
use Rattle.elf_sections.specs.Headers.{null_section_sound, whole_entries, bytes_inside, header_sound, section_sound, bad_section, count_sound, section_fault}
use Rattle.base_lists.specs.Ranges.{first}
use Rattle.base_scope.specs.Limits.{SECTION_LIMIT}
use Rattle.base_scope.specs.Refusals.{found_below}
use Rattle.base_scope.proofs.Refusals.{expect_true, expect_false}

-- the tests of a header, each way
module _ (h : SectionHeader) where
  pub null_first : (i : ℕ) → i ≡ 0 → (eqb h.sh_type SHT_NULL && eqb h.sh_size 0) ≡ null_section_sound i h
  unfolding null_section_sound
  null_first i e = rw (eq-eqb _ _ e)

  pub null_other : (i : ℕ) → (i ≡ 0 → ⊥) → not (eqb h.sh_type SHT_NULL) ≡ null_section_sound i h
  unfolding null_section_sound
  null_other i e = rw (ne_eqb _ _ e)

  pub entries_none : h.sh_entsize ≡ 0 → true ≡ whole_entries h
  unfolding whole_entries
  entries_none e = rw (eq-eqb _ _ e)

  pub entries_some : (h.sh_entsize ≡ 0 → ⊥) → eqb (h.sh_size % h.sh_entsize) 0 ≡ whole_entries h
  unfolding whole_entries
  entries_some e = rw (ne_eqb _ _ e)

  pub inside_none : (len : ℕ) → h.sh_type ≡ SHT_NOBITS → true ≡ bytes_inside len h
  unfolding bytes_inside
  inside_none len e = rw (eq-eqb _ _ e)

  pub inside_some : (len : ℕ) → (h.sh_type ≡ SHT_NOBITS → ⊥) → leb (h.sh_offset + h.sh_size) len ≡ bytes_inside len h
  unfolding bytes_inside
  inside_some len e = rw (ne_eqb _ _ e)

module _ (o : ByteOrder) (F : List ℕ) (i : ℕ) where
  pub section_outside : length F < header_place o F i + 40 → false ≡ section_sound o F i
  unfolding section_sound
  section_outside l = rw (lt-leb _ _ l)

  pub section_inside : (h : SectionHeader) → h ≡ section o F i → header_place o F i + 40 ≤ length F → header_sound (length F) i h ≡ section_sound o F i
  unfolding section_sound
  section_inside h e l = rw (le-leb _ _ l, e)

  pub bad_false : section_sound o F i ≡ true → bad_section o F i ≡ false
  unfolding bad_section
  bad_false e = rw e

  pub bad_true : section_sound o F i ≡ false → bad_section o F i ≡ true
  unfolding bad_section
  bad_true e = rw e

module _ (o : ByteOrder) (F : List ℕ) (n : ℕ) (is : n ≡ section_count o F) where
  pub fault_counted : (k : ℕ) → (leb 1 n && leb n SECTION_LIMIT) ≡ true → k ≡ first (bad_section o F) 0 n → found_below n k ≡ section_fault o F
  unfolding section_fault count_sound
  fault_counted k t e = rw (e, ← is) (sym (expect_true _ 0 _ t))

  pub fault_uncounted : (leb 1 n && leb n SECTION_LIMIT) ≡ false → Some 0 ≡ section_fault o F
  unfolding section_fault count_sound
  fault_uncounted t = rw (← is) (sym (expect_false _ 0 _ t))
