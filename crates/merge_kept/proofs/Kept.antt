-- The laws of what stays: every section behind it is of a dropped type, so one of another type stays; the sections of codes do, and so do relocation tables.
-- Assumes nothing.
use Prim.Native.Nat.{ℕ, zero, suc, ◌≤◌, ◌<◌}
use mathlib.Core.Path.{◌≡◌, refl, sym, ap, ◌∙◌}
use mathlib.Core.Bool.{true, false, not, ◌||◌}
use mathlib.Core.List.{List}
use native.Mathlib.Omega.{arith}
use lib.Dec.{eqb, ltb}
use borrow.Author.Tests.{eq-eqb, ne_eqb, eqb-true, ltb-true}
use Rattle.base_lists.specs.Ranges.{past_last}
use Rattle.base_lists.proofs.Ranges.{by-test, both, by-lt, and_parts, past_le, past_above}
use Rattle.base_fields.specs.declared.ByteOrder.{ByteOrder}
use Rattle.elf_records.specs.declared.section.SectionHeader.{SectionHeader}
use Rattle.base_scope.specs.Elf.{SHT_SYMTAB, SHT_STRTAB, SHT_RELA, SHT_REL, SHT_MIPS_GPTAB, SHT_MIPS_DEBUG}
use Rattle.base_scope.specs.Codes.{code_type, section_codes}
use Rattle.elf_readers.specs.Readers.{section_count, section, coded_section, is_strtab}
use Rattle.elf_symbols.specs.Symbols.{symtab, Tabled}
use Rattle.elf_symbols.proofs.Symbols.{symtab_type}
use Rattle.elf_relocations.specs.Relocations.{is_rela, is_table}
use Rattle.merge_kept.specs.Kept.{stays, kept}

module _ (o : ByteOrder) (F : List ℕ) where
  -- a section header in hand
  module _ (i : ℕ) (h : SectionHeader) (is : h ≡ section o F i) where
    pub stays_not : h.sh_type ≡ SHT_MIPS_GPTAB → false ≡ stays o F i
    unfolding stays
    stays_not e = rw (← is, eq-eqb _ _ e)

    pub stays_read : (h.sh_type ≡ SHT_MIPS_GPTAB → ⊥) → not (eqb h.sh_type SHT_MIPS_DEBUG) ≡ stays o F i
    unfolding stays
    stays_read d = rw (← is, ne_eqb _ _ d)

  -- neither of the two types
  pub other_stays : (i : ℕ) → ((section o F i).sh_type ≡ SHT_MIPS_GPTAB → ⊥) → ((section o F i).sh_type ≡ SHT_MIPS_DEBUG → ⊥) → stays o F i ≡ true
  other_stays i d e = sym (stays_read i (section o F i) refl d) ∙ ap not (ne_eqb _ _ e)

  pub kept_flag : (flag : ℕ) → flag ≡ 1 → kept o F flag ≡ past_last (stays o F) (section_count o F)
  unfolding kept
  kept_flag flag e = rw (eq-eqb _ _ e)

  pub kept_all : (flag : ℕ) → (flag ≡ 1 → ⊥) → kept o F flag ≡ section_count o F
  unfolding kept
  kept_all flag d = rw (ne_eqb _ _ d)

  pub kept_le : (flag : ℕ) → kept o F flag ≤ section_count o F
  unfolding kept
  kept_le flag = by-test (eqb flag 1) (λ t. rw t (past_le (stays o F) (section_count o F))) (λ f. rw f (omega arith))

  -- what is dropped is of the two types
  pub dropped_type : (flag i : ℕ) → kept o F flag ≤ i → i < section_count o F → stays o F i ≡ false
  unfolding kept
  dropped_type flag i l h = by-test (eqb flag 1)
      (λ t. past_above (stays o F) (section_count o F) i (rw t at l) h)
      (λ f. let g : section_count o F ≤ i = rw f at l in absurd (omega arith))

  -- so a section of another type stays
  pub stays_kept : (flag i : ℕ) → i < section_count o F → stays o F i ≡ true → i < kept o F flag
  stays_kept flag i h t = by-lt i (kept o F flag) (λ l. l) (λ l. both t (dropped_type flag i l h))

-- no code's type is one of the two
code_type_lem : (c : ℕ) → (eqb (code_type c) SHT_MIPS_GPTAB || eqb (code_type c) SHT_MIPS_DEBUG) ≡ false
unfolding code_type section_codes
code_type_lem zero = refl
code_type_lem (suc zero) = refl
code_type_lem (suc (suc zero)) = refl
code_type_lem (suc (suc (suc zero))) = refl
code_type_lem (suc (suc (suc (suc zero)))) = refl
code_type_lem (suc (suc (suc (suc (suc zero))))) = refl
code_type_lem (suc (suc (suc (suc (suc (suc zero)))))) = refl
code_type_lem (suc (suc (suc (suc (suc (suc (suc n))))))) = refl

-- so the sections of codes stay, where they have document 01's types
pub coded_kept : (o : ByteOrder) (F : List ℕ) (flag c : ℕ) → coded_section o F c < section_count o F
    → (section o F (coded_section o F c)).sh_type ≡ code_type c → coded_section o F c < kept o F flag
unfolding stays
coded_kept o F flag c h e = stays_kept o F flag (coded_section o F c) h (rw (e, code_type_lem c))

-- ---- what a merge reads of C is never dropped: relocation tables, the symbol table, and the string tables of both kinds of names

typed_kept : (o : ByteOrder) (F : List ℕ) (flag i t : ℕ) → i < section_count o F → (section o F i).sh_type ≡ t → (t ≡ SHT_MIPS_GPTAB → ⊥) → (t ≡ SHT_MIPS_DEBUG → ⊥)
    → i < kept o F flag
typed_kept o F flag i t h e a b = stays_kept o F flag i h (other_stays o F i (λ q. a (sym e ∙ q)) (λ q. b (sym e ∙ q)))

pub table_kept : (o : ByteOrder) (F : List ℕ) (flag i : ℕ) → i < section_count o F → is_table o F i ≡ true → i < kept o F flag
unfolding is_table is_rela
table_kept o F flag i h t = by-test (eqb (section o F i).sh_type SHT_RELA)
    (λ y. typed_kept o F flag i SHT_RELA h (eqb-true _ _ y) (omega arith) (omega arith))
    (λ n. typed_kept o F flag i SHT_REL h (eqb-true _ _ (rw n at t)) (omega arith) (omega arith))

pub symtab_kept : (o : ByteOrder) (F : List ℕ) (flag : ℕ) → Tabled o F → symtab o F < kept o F flag
symtab_kept o F flag w = typed_kept o F flag (symtab o F) SHT_SYMTAB w.table (symtab_type o F w.table) (omega arith) (omega arith)

pub strings_kept : (o : ByteOrder) (F : List ℕ) (flag i : ℕ) → is_strtab o F i ≡ true → i < kept o F flag
unfolding is_strtab
strings_kept o F flag i t =
    let r = and_parts (ltb i (section_count o F)) _ t in
    typed_kept o F flag i SHT_STRTAB (ltb-true _ _ r.0) (eqb-true _ _ r.1) (omega arith) (omega arith)
