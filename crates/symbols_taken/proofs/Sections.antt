-- The codes of the sections of an object that is read by its view, and its tables that relocate one of the five. Assumes nothing.
use Prim.Native.Nat.{ℕ, ◌+◌, ◌≤◌}
use mathlib.Core.Path.{◌≡◌, sym, ap, ◌∙◌}
use mathlib.Core.Bool.{Bool, true, false, ◌&&◌}
use mathlib.Core.List.{List}
use native.Mathlib.Omega.{arith}
use lib.Dec.{eqb, leb}
use borrow.Author.Tests.{eqb-true, lt-ltb, le-ltb, le-leb, lt-leb}
use Rattle.base_lists.specs.Ranges.{first}
use Rattle.base_lists.proofs.Ranges.{by-lt, first_low_lem, first_high, first_is, first_ext, and_parts}
use Rattle.base_fields.specs.declared.ByteOrder.{ByteOrder}
use Rattle.base_scope.specs.Codes.{TEXT, LATE_RODATA, CODES}
use Rattle.elf_records.specs.declared.section.SectionHeader.{SectionHeader}
use Rattle.elf_readers.specs.Readers.{section}
use Rattle.elf_relocations.specs.Relocations.{is_table}
use Rattle.merge_inputs.specs.of_elf_check.declared.View.{View}
use Rattle.merge_inputs.specs.of_elf_check.View.{view_of, section_in, has_in}
use Rattle.merge_inputs.proofs.of_elf_check.Views.{view_section, view_has}
use Rattle.symbols_taken.specs.Used.{is_section_of, code_of, is_source, is_source_table}
use Rattle.symbols_taken.specs.Code.{is_section_in, code_in, is_source_in}

module _ (v : View) (s : ℕ) where
  pub section_read : (c i : ℕ) (h r : Bool) → h ≡ has_in v c → i ≡ section_in v c → r ≡ (h && eqb i s) → r ≡ is_section_in v s c
  unfolding is_section_in
  section_read c i h r e f is = rw (is, e, f)

  pub code_found : (c : ℕ) → first (is_section_in v s) TEXT (LATE_RODATA + 1) ≡ c → c ≡ code_in v s
  unfolding code_in
  code_found c e = sym e

  pub code_range : (1 ≤ code_in v s) × (code_in v s ≤ CODES)
  unfolding code_in
  code_range = (first_low_lem (is_section_in v s) TEXT (LATE_RODATA + 1), first_high (is_section_in v s) TEXT (LATE_RODATA + 1) (omega arith))

  -- a section of the last of the five is the one that the view has for it
  pub late_section : code_in v s ≡ LATE_RODATA → section_in v LATE_RODATA ≡ s
  unfolding code_in is_section_in
  late_section e =
      let t : is_section_in v s (first (is_section_in v s) TEXT (LATE_RODATA + 1)) ≡ true = (first_is (is_section_in v s) TEXT (LATE_RODATA + 1) (omega arith)).here (omega (arith, e)) in
      eqb-true _ _ (and_parts (has_in v LATE_RODATA) (eqb (section_in v LATE_RODATA) s) (ap (is_section_in v s) (sym e) ∙ t)).1

  pub source_read : (c : ℕ) → c ≡ code_in v s → leb c LATE_RODATA ≡ is_source_in v s
  unfolding is_source_in
  source_read c e = rw (← e) (by-lt LATE_RODATA c
      (λ h. lt-leb c LATE_RODATA h ∙ sym (le-ltb c (LATE_RODATA + 1) (omega arith)))
      (λ h. le-leb c LATE_RODATA h ∙ sym (lt-ltb c (LATE_RODATA + 1) (omega arith))))

-- of an object that is read by its view
module _ (o : ByteOrder) (A : List ℕ) (v : View) (is : v ≡ view_of o A) where
  section_is : (s c : ℕ) → 1 ≤ c → c ≤ CODES → is_section_in v s c ≡ is_section_of o A s c
  unfolding is_section_in is_section_of
  section_is s c l h = rw (view_has o A v is c l h, view_section o A v is c l h)

  pub code_is : (s : ℕ) → code_in v s ≡ code_of o A s
  unfolding code_in code_of
  code_is s = first_ext (is_section_in v s) (is_section_of o A s) TEXT (LATE_RODATA + 1) (λ c l u. section_is s c l (omega arith))

  pub source_is : (s : ℕ) → is_source_in v s ≡ is_source o A s
  unfolding is_source_in is_source
  source_is s = rw (code_is s)

  -- a relocation table, by its header
  pub table_read : (t : ℕ) (h : SectionHeader) (r : Bool) → is_table o A t ≡ true → h ≡ section o A t → r ≡ is_source_in v h.sh_info → r ≡ is_source_table o A t
  unfolding is_source_table
  table_read t h r y e f = rw (f, y, e) (source_is (section o A t).sh_info)

pub table_none : (o : ByteOrder) (A : List ℕ) (t : ℕ) → is_table o A t ≡ false → false ≡ is_source_table o A t
unfolding is_source_table
table_none o A t n = rw n

pub table_kind : (o : ByteOrder) (A : List ℕ) (t : ℕ) → is_source_table o A t ≡ true → is_table o A t ≡ true
unfolding is_source_table
table_kind o A t e = (and_parts (is_table o A t) (is_source o A (section o A t).sh_info) e).0
