-- The kinds of C's sections, as they are told, and that what becomes of each is `own_bytes`. Assumes nothing.
use Prim.Native.Nat.{ℕ, ◌≤◌, ◌<◌}
use mathlib.Core.Path.{◌≡◌, refl, sym, ap, ◌∙◌}
use mathlib.Core.Bool.{Bool, true, false, ◌&&◌}
use mathlib.Core.List.{List}
use native.Mathlib.Omega.{arith}
use lib.ListN.{length}
use lib.Dec.{eqb, ltb}
use borrow.Author.Tests.{lt-ltb, le-ltb, ltb-true, eq-eqb, ne_eqb}
use Rattle.base_lists.proofs.Ranges.{by-test, both}
use Rattle.base_fields.specs.declared.ByteOrder.{ByteOrder}
use Rattle.base_scope.specs.Elf.{SHT_MIPS_DEBUG}
use Rattle.base_scope.specs.Codes.{BSS, REGINFO}
use Rattle.elf_records.specs.declared.section.SectionHeader.{SectionHeader}
use Rattle.elf_readers.specs.Readers.{section, contents}
use Rattle.elf_symbols.specs.Symbols.{symtab, strtab}
use Rattle.elf_check.specs.declared.View.{View}
use Rattle.elf_check.specs.View.{view_of, section_in, has_in}
use Rattle.elf_check.proofs.Views.{view_section, view_has}
use Rattle.blocks_places.specs.Places.{Place}
use Rattle.statics_table.specs.Statics.{name_head}
use Rattle.statics_walk.specs.Walk.{statics}
use Rattle.write_plan.specs.of_merge_sections.Sections.{result_section, register_bytes}
use Rattle.symbols_taken.specs.Used.{is_section_of, code_of}
use Rattle.symbols_taken.specs.Code.{code_in}
use Rattle.symbols_taken.proofs.Sections.{code_is}
use Rattle.symbols_ids.specs.Table.{result_symbols}
use Rattle.write_strings.specs.Strings.{result_strings}
use Rattle.write_plan.specs.Plan.{own_bytes}
use Rattle.write_planned.specs.declared.OwnKind.{OwnKind}
use Rattle.write_planned.specs.declared.OwnKind.TheVariants.{Same, Symbols, Strings, Registers, Copied}
use Rattle.write_planned.specs.OwnKinds.{is_registers_in, coded_kind, own_kind, kind_bytes}

pub registers_read : (v : View) (i s : ℕ) (h r : Bool) → h ≡ has_in v REGINFO → s ≡ section_in v REGINFO → r ≡ (h && eqb s i) → r ≡ is_registers_in v i
unfolding is_registers_in
registers_read v i s h r e f is = rw (is, e, f)

-- ---- the kinds as they are told

module _ (o : ByteOrder) (C : List ℕ) (v : View) (is : v ≡ view_of o C) (i : ℕ) where
  registers_are : is_registers_in v i ≡ is_section_of o C i REGINFO
  unfolding is_registers_in is_section_of
  registers_are = rw (view_has o C v is REGINFO (omega arith) (omega arith), view_section o C v is REGINFO (omega arith) (omega arith))

  module _ (r : Bool) (e : r ≡ is_registers_in v i) where
    pub kind_registers : r ≡ true → Registers ≡ coded_kind o C i
    unfolding coded_kind
    kind_registers t = rw (sym registers_are ∙ sym e ∙ t)

    module _ (f : r ≡ false) (c : ℕ) (code : c ≡ code_in v i) where
      pub kind_copied : c < BSS → Copied ≡ coded_kind o C i
      unfolding coded_kind
      kind_copied l = rw (sym registers_are ∙ sym e ∙ f, ← code_is o C v is i, ← code, lt-ltb c BSS l)

      pub kind_other : BSS ≤ c → Same ≡ coded_kind o C i
      unfolding coded_kind
      kind_other l = rw (sym registers_are ∙ sym e ∙ f, ← code_is o C v is i, ← code, le-ltb c BSS l)

  module _ (h : SectionHeader) (read : h ≡ section o C i) where
    pub kind_debug : h.sh_type ≡ SHT_MIPS_DEBUG → Same ≡ own_kind o C i
    unfolding own_kind
    kind_debug t = rw (← read, eq-eqb h.sh_type SHT_MIPS_DEBUG t)

    module _ (d : h.sh_type ≡ SHT_MIPS_DEBUG → ⊥) where
      table_as : v.symtab ≡ symtab o C
      unfolding view_of
      table_as = ap (λ (w : View). w.symtab) is

      strings_as : v.strtab ≡ strtab o C
      unfolding view_of
      strings_as = ap (λ (w : View). w.strtab) is

      pub kind_symbols : i ≡ v.symtab → Symbols ≡ own_kind o C i
      unfolding own_kind
      kind_symbols t = rw (← read, ne_eqb h.sh_type SHT_MIPS_DEBUG d, ← table_as, eq-eqb i v.symtab t)

      module _ (n : i ≡ v.symtab → ⊥) where
        pub kind_strings : i ≡ v.strtab → Strings ≡ own_kind o C i
        unfolding own_kind
        kind_strings t = rw (← read, ne_eqb h.sh_type SHT_MIPS_DEBUG d, ← table_as, ne_eqb i v.symtab n, ← strings_as, eq-eqb i v.strtab t)

        pub kind_coded : (k : OwnKind) → (i ≡ v.strtab → ⊥) → k ≡ coded_kind o C i → k ≡ own_kind o C i
        unfolding own_kind
        kind_coded k m e = rw (← read, ne_eqb h.sh_type SHT_MIPS_DEBUG d, ← table_as, ne_eqb i v.symtab n, ← strings_as, ne_eqb i v.strtab m) e

-- ---- a section that blocks are copied into has one of the first codes

abbrev copies_into : OwnKind → Bool
copies_into Same = false
copies_into Symbols = false
copies_into Strings = false
copies_into Registers = false
copies_into Copied = true

module _ (o : ByteOrder) (C : List ℕ) (i : ℕ) where
  coded_low : copies_into (coded_kind o C i) ≡ true → code_of o C i < BSS
  unfolding coded_kind
  coded_low e = by-test (is_section_of o C i REGINFO)
      (λ t. both (rw t at e) refl)
      (λ f. let g = rw f at e in by-test (ltb (code_of o C i) BSS) (λ t. ltb-true (code_of o C i) BSS t) (λ u. both (rw u at g) refl))

  copies_low : copies_into (own_kind o C i) ≡ true → code_of o C i < BSS
  unfolding own_kind
  copies_low e = by-test (eqb (section o C i).sh_type SHT_MIPS_DEBUG)
      (λ t. both (rw t at e) refl)
      (λ f. let g = rw f at e in by-test (eqb i (symtab o C))
      (λ t. both (rw t at g) refl)
      (λ u. let k = rw u at g in by-test (eqb i (strtab o C)) (λ t. both (rw t at k) refl) (λ w. coded_low (rw w at k))))

  pub copied_low : (k : OwnKind) → k ≡ own_kind o C i → k ≡ Copied → code_of o C i < BSS
  copied_low k e f = copies_low (ap copies_into (sym e ∙ f))

-- ---- what becomes of them

module _ (o : ByteOrder) (C A : List ℕ) (P : List Place) (B path : List ℕ) (flag mode i : ℕ) where
  pub kind_bytes_lem : kind_bytes o C A P B path mode i (own_kind o C i) ≡ own_bytes o C A P B path flag mode i
  unfolding kind_bytes own_kind coded_kind own_bytes
  kind_bytes_lem = by-test (eqb (section o C i).sh_type SHT_MIPS_DEBUG)
      (λ a. rw a)
      (λ a. rw a (by-test (eqb i (symtab o C))
      (λ b. rw b)
      (λ b. rw b (by-test (eqb i (strtab o C))
      (λ c. rw c)
      (λ c. rw c (by-test (is_section_of o C i REGINFO)
      (λ d. rw d)
      (λ d. rw d (by-test (ltb (code_of o C i) BSS) (λ e. rw e) (λ e. rw e)))))))))

  -- by the kind in hand
  module _ (k : OwnKind) (e : k ≡ own_kind o C i) where
    kind_here : (l : OwnKind) → k ≡ l → kind_bytes o C A P B path mode i l ≡ own_bytes o C A P B path flag mode i
    kind_here l f = ap (kind_bytes o C A P B path mode i) (sym f ∙ e) ∙ kind_bytes_lem

    pub own_same : k ≡ Same → contents o C i ≡ own_bytes o C A P B path flag mode i
    unfolding kind_bytes
    own_same f = kind_here Same f

    pub own_symbols : k ≡ Symbols → result_symbols o C A P B mode (statics o C mode (length (name_head mode path))) ≡ own_bytes o C A P B path flag mode i
    unfolding kind_bytes
    own_symbols f = kind_here Symbols f

    pub own_strings : k ≡ Strings → result_strings o C A mode path (statics o C mode (length (name_head mode path))) ≡ own_bytes o C A P B path flag mode i
    unfolding kind_bytes
    own_strings f = kind_here Strings f

    pub own_registers : k ≡ Registers → register_bytes o C A ≡ own_bytes o C A P B path flag mode i
    unfolding kind_bytes
    own_registers f = kind_here Registers f

    pub own_copied : k ≡ Copied → result_section o C A P B (code_of o C i) ≡ own_bytes o C A P B path flag mode i
    unfolding kind_bytes
    own_copied f = kind_here Copied f
