-- What the sections of the merged object hold, by their types in C: the types of a sound C leave one case each. Assumes nothing.
use Prim.Native.Nat.{ℕ, ◌+◌, ◌≤◌, ◌<◌}
use mathlib.Core.Path.{◌≡◌, refl, sym, ap, ◌∙◌}
use mathlib.Core.Logic.{◌≢◌, ◌⊎◌, inl, inr}
use mathlib.Core.Bool.{true, false}
use mathlib.Core.List.{List, [], ◌++◌, append-nil}
use native.Mathlib.Omega.{arith}
use lib.ListN.{length}
use lib.Dec.{eqb, ltb}
use borrow.Author.Tests.{ltb-true, lt-ltb, le-ltb, eqb-true, eq-eqb, ne_eqb}
use Rattle.base_lists.proofs.Ranges.{by-test, by-lt, and_parts, first_is, first_low_lem}
use Rattle.base_fields.specs.declared.ByteOrder.{ByteOrder}
use Rattle.base_scope.specs.Elf.{SHT_NULL, SHT_PROGBITS, SHT_SYMTAB, SHT_STRTAB, SHT_RELA, SHT_NOBITS, SHT_REL, SHT_MIPS_DEBUG}
use Rattle.base_scope.specs.Codes.{TEXT, BSS, LATE_RODATA, REGINFO, CODES, section_codes, code_type}
use Rattle.elf_readers.specs.Readers.{header, section_count, section, contents, coded_section, has_code, is_strtab, section_strings}
use Rattle.elf_readers.proofs.Readers.{contents_none, code_there}
use Rattle.elf_sections.specs.Headers.{null_section_sound}
use Rattle.elf_sections.proofs.Bounds.{sound_null}
use Rattle.elf_symbols.specs.Symbols.{symtab, strtab, symbol_strings}
use Rattle.elf_symbols.proofs.Symbols.{symtab_type}
use Rattle.elf_relocations.specs.Relocations.{is_rela, is_table}
use Rattle.elf_check.specs.Sound.{Sound}
use Rattle.blocks_places.specs.Places.{Place}
use Rattle.statics_table.specs.declared.Static.{Static}
use Rattle.statics_table.specs.Statics.{name_head}
use Rattle.statics_entry.specs.Entry.{nth}
use Rattle.statics_walk.specs.Walk.{statics}
use Rattle.carry_entries.specs.of_symbols_ids.Table.{result_symbols}
use Rattle.write_strings.specs.Strings.{strings_below, result_strings}
use Rattle.merge_kept.specs.Kept.{kept}
use Rattle.merge_kept.proofs.Kept.{other_stays, stays_kept, symtab_kept, strings_kept}
use Rattle.carry_entries.specs.of_symbols_taken.Used.{is_section_of, code_of}
use Rattle.carry_homes.specs.Homes.{new_count}
use Rattle.write_plan.specs.Plan.{new_names, is_planned_table, table_bytes, own_bytes, added_names, planned_bytes}

-- ---- types in C

-- the codes below .bss are of type PROGBITS
pub front_type : (c : ℕ) → 1 ≤ c → c < BSS → code_type c ≡ SHT_PROGBITS
unfolding code_type section_codes
front_type c l h = by-lt c 2
    (λ a. let e : c ≡ 1 = omega arith in rw e)
    (λ a. by-lt c 3 (λ b. let e : c ≡ 2 = omega arith in rw e) (λ b. let e : c ≡ 3 = omega arith in rw e))

pub strtab_type : (o : ByteOrder) (F : List ℕ) (i : ℕ) → is_strtab o F i ≡ true → (section o F i).sh_type ≡ SHT_STRTAB
unfolding is_strtab
strtab_type o F i e = eqb-true (section o F i).sh_type SHT_STRTAB (and_parts (ltb i (section_count o F)) _ e).1

-- section 0 is null
pub null_parts : (o : ByteOrder) (F : List ℕ) → Sound o F → ((section o F 0).sh_type ≡ SHT_NULL) × ((section o F 0).sh_size ≡ 0)
unfolding null_section_sound
null_parts o F sound =
    let r = and_parts (eqb (section o F 0).sh_type SHT_NULL) (eqb (section o F 0).sh_size 0) (sound_null o F 0 (sound.sections 0 sound.some)) in
    (eqb-true (section o F 0).sh_type SHT_NULL r.0, eqb-true (section o F 0).sh_size 0 r.1)

module _ (o : ByteOrder) (C : List ℕ) (i : ℕ) where
  abbrev type : ℕ
  type = (section o C i).sh_type

  pub table_typed : is_table o C i ≡ true → (type ≡ SHT_RELA) ⊎ (type ≡ SHT_REL)
  unfolding is_table is_rela
  table_typed t = by-test (eqb type SHT_RELA)
      (λ y. inl (eqb-true type SHT_RELA y))
      (λ f. inr (eqb-true type SHT_REL (rw f at t)))

  pub table_not : type ≢ SHT_RELA → type ≢ SHT_REL → is_table o C i ≡ false
  unfolding is_table is_rela
  table_not a b = rw (ne_eqb type SHT_RELA a, ne_eqb type SHT_REL b)

  -- the section of a code has its type
  coded_type : Sound o C → (c : ℕ) → 1 ≤ c → c ≤ CODES → is_section_of o C i c ≡ true → type ≡ code_type c
  unfolding is_section_of
  coded_type sound c l u t =
      let r = and_parts (has_code o C c) (eqb (coded_section o C c) i) t in
      ap (λ (x : ℕ). (section o C x).sh_type) (sym (eqb-true (coded_section o C c) i r.1)) ∙ sound.types c l u (code_there o C c r.0)

  module _ (sound : Sound o C) where
    pub symtab_not : type ≢ SHT_SYMTAB → eqb i (symtab o C) ≡ false
    symtab_not n = ne_eqb i (symtab o C) (λ e. n (ap (λ (x : ℕ). (section o C x).sh_type) e ∙ symtab_type o C sound.tabled.table))

    strings_not : (s : ℕ) → is_strtab o C s ≡ true → type ≢ SHT_STRTAB → eqb i s ≡ false
    strings_not s t n = ne_eqb i s (λ e. n (ap (λ (x : ℕ). (section o C x).sh_type) e ∙ strtab_type o C s t))

    reginfo_not : type ≢ code_type REGINFO → is_section_of o C i REGINFO ≡ false
    reginfo_not n = by-test (is_section_of o C i REGINFO)
        (λ t. absurd (n (coded_type sound REGINFO (omega arith) (omega arith) t)))
        (λ f. f)

    front_not : type ≢ SHT_PROGBITS → ltb (code_of o C i) BSS ≡ false
    unfolding code_of
    front_not n = by-test (ltb (code_of o C i) BSS)
        (λ t.
        let c : ℕ = code_of o C i in
        let h : c < BSS = ltb-true c BSS t in
        let l : 1 ≤ c = first_low_lem (is_section_of o C i) TEXT (LATE_RODATA + 1) in
        let is : is_section_of o C i c ≡ true = (first_is (is_section_of o C i) TEXT (LATE_RODATA + 1) (omega arith)).here (omega (arith, h)) in
        absurd (n (coded_type sound c l (omega (arith, h)) is ∙ front_type c l h)))
        (λ f. f)

  -- the types that are written anew, other than tables
  pub record Plain : Type 0 where
    pub not_symbols : type ≢ SHT_SYMTAB
    pub not_strings : type ≢ SHT_STRTAB
    pub not_registers : type ≢ code_type REGINFO
    pub not_program : type ≢ SHT_PROGBITS

-- ---- what the merged object holds

module _ (o : ByteOrder) (C A : List ℕ) (P : List Place) (B path : List ℕ) (flag mode : ℕ) where
  abbrev bytes : ℕ → List ℕ
  bytes = planned_bytes o C A P B path flag mode

  abbrev own : ℕ → List ℕ
  own = own_bytes o C A P B path flag mode

  -- a section that stays is a table where C's is
  pub planned_kept : (i : ℕ) → i < kept o C flag → is_planned_table o C A P B path flag mode i ≡ is_table o C i
  unfolding is_planned_table
  planned_kept i h = rw (lt-ltb i (kept o C flag) h)

  pub planned_new : (i : ℕ) → kept o C flag ≤ i → is_planned_table o C A P B path flag mode i ≡ true
  unfolding is_planned_table
  planned_new i h = rw (le-ltb i (kept o C flag) h)

  pub table_holds : (i : ℕ) → is_planned_table o C A P B path flag mode i ≡ true → bytes i ≡ table_bytes o C A P B path flag mode i
  unfolding planned_bytes
  table_holds i t = rw t

  pub other_holds : (i : ℕ) → i < kept o C flag → is_table o C i ≡ false → bytes i ≡ own i ++ added_names o C A P B path flag mode i
  unfolding planned_bytes
  other_holds i h f = rw (planned_kept i h ∙ f)

  pub unadded : (i : ℕ) → eqb i (header o C).e_shstrndx ≡ false → added_names o C A P B path flag mode i ≡ []
  unfolding added_names
  unadded i f = rw f

  module _ (sound : Sound o C) (names : is_strtab o C (header o C).e_shstrndx ≡ true) where
    -- ---- sections that keep their bytes

    own_plain : (i : ℕ) → Plain o C i → own i ≡ contents o C i
    unfolding own_bytes
    own_plain i p = by-test (eqb (section o C i).sh_type SHT_MIPS_DEBUG)
        (λ t. rw t)
        (λ f.
        rw (
          f,
          symtab_not o C i sound p.not_symbols,
          strings_not o C i sound (strtab o C) sound.strings p.not_strings,
          reginfo_not o C i sound p.not_registers,
          front_not o C i sound p.not_program,
        ))

    plain_bytes : (i : ℕ) → i < kept o C flag → (section o C i).sh_type ≢ SHT_RELA → (section o C i).sh_type ≢ SHT_REL → Plain o C i → bytes i ≡ contents o C i
    plain_bytes i h a b p =
        other_holds i h (table_not o C i a b)
        ∙ ap (λ (x : List ℕ). own i ++ x) (unadded i (strings_not o C i sound (header o C).e_shstrndx names p.not_strings))
        ∙ append-nil (own i)
        ∙ own_plain i p

    plain_typed : (i t : ℕ) → (section o C i).sh_type ≡ t → t ≢ SHT_SYMTAB → t ≢ SHT_STRTAB → t ≢ code_type REGINFO → t ≢ SHT_PROGBITS → Plain o C i
    plain_typed i t e a b c d = record {
      not_symbols = λ q. a (sym e ∙ q);
      not_strings = λ q. b (sym e ∙ q);
      not_registers = λ q. c (sym e ∙ q);
      not_program = λ q. d (sym e ∙ q);
    }

    -- the bytes of a debug section stay
    pub debug_bytes_lem : (i : ℕ) → i < kept o C flag → (section o C i).sh_type ≡ SHT_MIPS_DEBUG → bytes i ≡ contents o C i
    unfolding code_type section_codes
    debug_bytes_lem i h e =
        plain_bytes i h (λ q. omega (arith, e, q)) (λ q. omega (arith, e, q))
        (plain_typed i SHT_MIPS_DEBUG e (omega arith) (omega arith) (omega arith) (omega arith))

    -- a section of type NOBITS holds none
    pub nobits_bytes : (i : ℕ) → i < kept o C flag → (section o C i).sh_type ≡ SHT_NOBITS → bytes i ≡ []
    unfolding code_type section_codes
    nobits_bytes i h e =
        plain_bytes i h (λ q. omega (arith, e, q)) (λ q. omega (arith, e, q))
        (plain_typed i SHT_NOBITS e (omega arith) (omega arith) (omega arith) (omega arith))
        ∙ sym (contents_none o C i (section o C i) refl e)

    -- section 0 stays and holds none
    pub null_kept : 0 < kept o C flag
    null_kept =
        stays_kept o C flag 0 sound.some
        (other_stays o C 0 (λ q. omega (arith, (null_parts o C sound).0, q)) (λ q. omega (arith, (null_parts o C sound).0, q)))

    null_contents : contents o C 0 ≡ []
    unfolding contents
    null_contents = rw ((null_parts o C sound).0, (null_parts o C sound).1)

    pub null_bytes : bytes 0 ≡ []
    unfolding code_type section_codes
    null_bytes =
        plain_bytes 0 null_kept (λ q. omega (arith, (null_parts o C sound).0, q)) (λ q. omega (arith, (null_parts o C sound).0, q))
        (plain_typed 0 SHT_NULL (null_parts o C sound).0 (omega arith) (omega arith) (omega arith) (omega arith))
        ∙ null_contents

    -- ---- the symbol table and the string tables

    abbrev S : List Static
    S = statics o C mode (length (name_head mode path))

    symbols_type : (section o C (symtab o C)).sh_type ≡ SHT_SYMTAB
    symbols_type = symtab_type o C sound.tabled.table

    own_symbols : own (symtab o C) ≡ result_symbols o C A P B mode S
    unfolding own_bytes
    own_symbols =
        let n : (section o C (symtab o C)).sh_type ≢ SHT_MIPS_DEBUG = λ q. omega (arith, symbols_type, q) in
        rw (ne_eqb (section o C (symtab o C)).sh_type SHT_MIPS_DEBUG n, eq-eqb (symtab o C) (symtab o C) refl)

    pub symbols_bytes : bytes (symtab o C) ≡ result_symbols o C A P B mode S
    symbols_bytes =
        let i : ℕ = symtab o C in
        other_holds i (symtab_kept o C flag sound.tabled) (table_not o C i (λ q. omega (arith, symbols_type, q)) (λ q. omega (arith, symbols_type, q)))
        ∙ ap (λ (x : List ℕ). own i ++ x) (unadded i (strings_not o C i sound (header o C).e_shstrndx names (λ q. omega (arith, symbols_type, q))))
        ∙ append-nil (own i)
        ∙ own_symbols

    module _ (i : ℕ) (is : (section o C i).sh_type ≡ SHT_STRTAB) where
      strings_past : eqb (section o C i).sh_type SHT_MIPS_DEBUG ≡ false
      strings_past = ne_eqb (section o C i).sh_type SHT_MIPS_DEBUG (λ q. omega (arith, is, q))

      strings_table : is_table o C i ≡ false
      strings_table = table_not o C i (λ q. omega (arith, is, q)) (λ q. omega (arith, is, q))

      own_strings : eqb i (strtab o C) ≡ true → own i ≡ result_strings o C A mode path S
      unfolding own_bytes
      own_strings t = rw (strings_past, symtab_not o C i sound (λ q. omega (arith, is, q)), t)

      own_other : eqb i (strtab o C) ≡ false → own i ≡ contents o C i
      unfolding own_bytes code_type section_codes
      own_other f =
          rw (
            strings_past,
            symtab_not o C i sound (λ q. omega (arith, is, q)),
            f,
            reginfo_not o C i sound (λ q. omega (arith, is, q)),
            front_not o C i sound (λ q. omega (arith, is, q)),
          )

      -- C's strings come first
      own_front : (r : List ℕ) × (own i ≡ contents o C i ++ r)
      unfolding result_strings symbol_strings
      own_front = by-test (eqb i (strtab o C))
          (λ t.
          let r : List ℕ = symbol_strings o A ++ strings_below mode path C (nth S) (length S) in
          (r, own_strings t ∙ ap (λ (x : ℕ). contents o C x ++ r) (sym (eqb-true i (strtab o C) t))))
          (λ f. ([], own_other f ∙ sym (append-nil (contents o C i))))

    pub strings_bytes : bytes (strtab o C) ≡ result_strings o C A mode path S ++ added_names o C A P B path flag mode (strtab o C)
    strings_bytes =
        let i : ℕ = strtab o C in
        let is = strtab_type o C i sound.strings in
        other_holds i (strings_kept o C flag i sound.strings) (strings_table i is)
        ∙ ap (λ (x : List ℕ). x ++ added_names o C A P B path flag mode i) (own_strings i is (eq-eqb i i refl))

    abbrev s : ℕ
    s = (header o C).e_shstrndx

    added_names_lem : added_names o C A P B path flag mode s ≡ new_names o C A (kept o C flag) (new_count o C A (kept o C flag))
    unfolding added_names
    added_names_lem = rw (eq-eqb s s refl)

    pub names_bytes : bytes s ≡ own s ++ new_names o C A (kept o C flag) (new_count o C A (kept o C flag))
    names_bytes = other_holds s (strings_kept o C flag s names) (strings_table s (strtab_type o C s names)) ∙ ap (λ (x : List ℕ). own s ++ x) added_names_lem

    pub names_front : (r : List ℕ) × (own s ≡ section_strings o C ++ r)
    unfolding section_strings
    names_front = own_front s (strtab_type o C s names)
