-- The sections of codes in the merged object: that of a code below BSS holds what block copying and the late step write, .bss holds no bytes.
-- Assumes nothing.
use Rattle.std.specs.Prelude.{None}
use Prim.Native.Nat.{ℕ, ◌≤◌, ◌<◌}
use mathlib.Core.Path.{◌≡◌, refl, sym, ap, ◌∙◌}
use mathlib.Core.Logic.{◌≢◌}
use mathlib.Core.Bool.{true, false}
use mathlib.Core.List.{List, [], ◌++◌, append-nil}
use native.Mathlib.Omega.{arith}
use lib.Dec.{eqb}
use borrow.Author.Tests.{ne_eqb, eqb-true, lt-ltb}
use Rattle.base_lists.proofs.Ranges.{by-test, and_parts}
use Rattle.base_fields.specs.declared.ByteOrder.{ByteOrder}
use Rattle.base_scope.specs.Elf.{SHT_NULL, SHT_PROGBITS, SHT_SYMTAB, SHT_STRTAB, SHT_RELA, SHT_NOBITS, SHT_REL, SHT_MIPS_DEBUG}
use Rattle.base_scope.specs.Codes.{BSS, REGINFO, CODES, section_codes, code_type}
use Rattle.elf_readers.specs.Readers.{header, section, contents, coded_section, has_code, coded_contents, is_strtab}
use Rattle.elf_readers.proofs.Readers.{code_there, codes_apart, contents_none}
use Rattle.elf_symbols.specs.Symbols.{strtab}
use Rattle.elf_check.specs.Sound.{Sound}
use Rattle.blocks_places.specs.Places.{Place}
use Rattle.merge_verdict.specs.of_merge_sections.Sections.{result_section}
use Rattle.merge_kept.specs.Kept.{kept}
use Rattle.merge_kept.proofs.Kept.{coded_kept}
use Rattle.symbols_taken.specs.Used.{is_section_of}
use Rattle.write_object.specs.Object.{moved_finding}
use Rattle.merge_verdict.specs.of_write_plan.Plan.{own_bytes, planned_bytes, merged_plan, merged_object}
use Rattle.merge_verdict.proofs.of_write_plan.Sections.{front_type, strtab_type, table_not, symtab_not, other_holds, unadded}
use Rattle.demand_clauses.proofs.Codes.{section_code}
use Rattle.merge_verdict.proofs.of_write_plan.Headers.{type_kept, merged_contents, nobits_merged}

-- ---- their types

-- .bss is of type NOBITS
bss_type : code_type BSS ≡ SHT_NOBITS
unfolding code_type section_codes
bss_type = refl

-- so A's .bss holds none
pub bss_empty : (o : ByteOrder) (F : List ℕ) → Sound o F → coded_contents o F BSS ≡ []
unfolding coded_contents
bss_empty o F sound = by-test (has_code o F BSS)
    (λ t.
    let s : ℕ = coded_section o F BSS in
    rw t (sym (contents_none o F s (section o F s) refl (sound.types BSS (omega arith) (omega arith) (code_there o F BSS t) ∙ bss_type))))
    (λ f. rw f)

-- ---- in the merged object

module _ (o : ByteOrder) (C A : List ℕ) (P : List Place) (B path : List ℕ) (flag mode : ℕ) (sound : Sound o C) where
  abbrev O : List ℕ
  O = merged_object o C A P B path flag mode

  module _ (c : ℕ) (low : 1 ≤ c) (there : has_code o C c ≡ true) where
    abbrev i : ℕ
    i = coded_section o C c

    coded_type : c ≤ CODES → (section o C i).sh_type ≡ code_type c
    coded_type h = sound.types c low h (code_there o C c there)

    stays : c ≤ CODES → i < kept o C flag
    stays h = coded_kept o C flag c (code_there o C c there) (coded_type h)

    module _ (front : c < BSS) where
      program : (section o C i).sh_type ≡ SHT_PROGBITS
      program = coded_type (omega (arith, front)) ∙ front_type c low front

      other : (t : ℕ) → SHT_PROGBITS ≢ t → (section o C i).sh_type ≢ t
      other t n q = n (sym program ∙ q)

      strings_not : (s : ℕ) → is_strtab o C s ≡ true → eqb i s ≡ false
      strings_not s t =
          ne_eqb i s (λ e. other SHT_STRTAB (omega arith) (ap (λ (x : ℕ). (section o C x).sh_type) e ∙ strtab_type o C s t))

      registers_not : is_section_of o C i REGINFO ≡ false
      unfolding is_section_of
      registers_not = by-test (is_section_of o C i REGINFO)
          (λ t.
          let e = eqb-true (coded_section o C REGINFO) i (and_parts (has_code o C REGINFO) _ t).1 in
          let q = codes_apart o C c REGINFO low (omega (arith, front)) (omega arith) (omega arith) (code_there o C c there) (sym e) in
          absurd (omega (arith, q, front)))
          (λ f. f)

      own_coded : own_bytes o C A P B path flag mode i ≡ result_section o C A P B c
      unfolding own_bytes
      own_coded =
          rw (
            ne_eqb (section o C i).sh_type SHT_MIPS_DEBUG (other SHT_MIPS_DEBUG (omega arith)),
            symtab_not o C i sound (other SHT_SYMTAB (omega arith)),
            strings_not (strtab o C) sound.strings,
            registers_not,
            section_code o C c low (omega (arith, front)) there,
            lt-ltb c BSS front,
          )

      coded_bytes : planned_bytes o C A P B path flag mode i ≡ result_section o C A P B c
      coded_bytes =
          other_holds o C A P B path flag mode i (stays (omega (arith, front))) (table_not o C i (other SHT_RELA (omega arith)) (other SHT_REL (omega arith)))
          ∙ ap (λ (x : List ℕ). own_bytes o C A P B path flag mode i ++ x) (unadded o C A P B path flag mode i (strings_not (header o C).e_shstrndx sound.names))
          ∙ append-nil (own_bytes o C A P B path flag mode i)
          ∙ own_coded

      typed : (t : ℕ) → SHT_PROGBITS ≢ t → ((merged_plan o C A P B path flag mode).heading i).sh_type ≢ t
      typed t n q = other t n (sym (type_kept o C A P B path flag mode i (stays (omega (arith, front)))) ∙ q)

      -- the section of a code below .bss holds what the merge writes there
      pub coded_merged : moved_finding (merged_plan o C A P B path flag mode) o ≡ None → contents o O i ≡ result_section o C A P B c
      coded_merged clear =
          merged_contents o C A P B path flag mode clear i (omega (arith, stays (omega (arith, front))))
          (typed SHT_NULL (omega arith)) (typed SHT_NOBITS (omega arith)) (typed SHT_MIPS_DEBUG (omega arith))
          ∙ coded_bytes

  -- .bss holds no bytes
  pub bss_merged : has_code o C BSS ≡ true → moved_finding (merged_plan o C A P B path flag mode) o ≡ None → contents o O (coded_section o C BSS) ≡ []
  bss_merged there clear =
      nobits_merged o C A P B path flag mode clear (coded_section o C BSS) (stays BSS (omega arith) there (omega arith)) (coded_type BSS (omega arith) there (omega arith) ∙ bss_type)
