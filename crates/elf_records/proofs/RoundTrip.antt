-- Each record is read back as it was written: its layout has no empty field, so the law of any layout applies, and a record is made of its
-- fields. Assumes nothing.
use Rattle.std.specs.Prelude.{Option, None, Some}
use mathlib.Core.Path.{◌≡◌, refl, ap, ◌∙◌}
use mathlib.Core.Bool.{Bool, true, false}
use mathlib.Core.List.{List, [], ◌∷◌, ◌++◌}
use Prim.Native.Nat.{ℕ, ◌+◌}
use lib.ListN.{length, take, drop, get_or, length-append}
use lib.Seq.{take_at, get_or-append-add}
use Rattle.base_lists.specs.Windows.{Within}
use Rattle.base_fields.specs.declared.ByteOrder.{ByteOrder}
use Rattle.base_fields.specs.Layouts.{width_of}
use Rattle.base_fields.proofs.Layouts.{positive, within_fields, fields_same, length_record}
use Rattle.elf_records.specs.declared.section.SectionHeader.{SectionHeader}
use Rattle.elf_records.specs.declared.symbol.SymbolEntry.{SymbolEntry}
use Rattle.elf_records.specs.declared.relocation.RelocationEntry.{RelocationEntry}
use Rattle.elf_records.specs.declared.header.ElfHeader.{ElfHeader}
use Rattle.elf_records.specs.declared.debug.Hdrr.{Hdrr}
use Rattle.elf_records.specs.Section.{section_layout, section_from, section_fields, section_at, section_bytes}
use Rattle.elf_records.specs.Symbol.{symbol_layout, symbol_from, symbol_fields, symbol_at, symbol_bytes}
use Rattle.elf_records.specs.Relocation.{relocation_layout, addend_of, relocation_from, addend_fields, relocation_fields, present, has_addend, relocation_at, relocation_bytes}
use Rattle.elf_records.specs.Header.{elf_layout, elf_from, elf_fields, elf_at, elf_bytes}
use Rattle.elf_records.specs.Debug.{debug_layout, debug_from, debug_fields, debug_at, debug_bytes}

-- the bytes of each record
pub section_width : width_of section_layout ≡ 40
unfolding width_of section_layout
section_width = refl

pub symbol_width : width_of symbol_layout ≡ 16
unfolding width_of symbol_layout
symbol_width = refl

pub rela_width : width_of (relocation_layout true) ≡ 12
unfolding width_of relocation_layout
rela_width = refl

pub rel_width : width_of (relocation_layout false) ≡ 8
unfolding width_of relocation_layout
rel_width = refl

pub elf_width : width_of elf_layout ≡ 52
unfolding width_of elf_layout
elf_width = refl

pub debug_width : width_of debug_layout ≡ 96
unfolding width_of debug_layout
debug_width = refl

-- section headers
pub length_section : (order : ByteOrder) (h : SectionHeader) → length (section_bytes order h) ≡ 40
unfolding section_bytes section_layout section_fields width_of
length_section order h = length_record order section_layout (section_fields h) refl

pub within_section : (order : ByteOrder) (h : SectionHeader) (l : List ℕ) (o : ℕ) → Within (section_bytes order h) o l → section_at order l o ≡ h
unfolding section_bytes section_layout section_from section_fields section_at
within_section order h l o v = ap section_from (within_fields order section_layout (section_fields h) l o refl refl v)

-- symbol entries
pub length_symbol : (order : ByteOrder) (s : SymbolEntry) → length (symbol_bytes order s) ≡ 16
unfolding symbol_bytes symbol_layout symbol_fields width_of
length_symbol order s = length_record order symbol_layout (symbol_fields s) refl

pub within_symbol : (order : ByteOrder) (s : SymbolEntry) (l : List ℕ) (o : ℕ) → Within (symbol_bytes order s) o l → symbol_at order l o ≡ s
unfolding symbol_bytes symbol_layout symbol_from symbol_fields symbol_at
within_symbol order s l o v = ap symbol_from (within_fields order symbol_layout (symbol_fields s) l o refl refl v)

-- the debug section's header
pub length_debug : (order : ByteOrder) (h : Hdrr) → length h.words ≡ 23 → length (debug_bytes order h) ≡ 96
unfolding debug_bytes debug_layout debug_fields width_of
length_debug order h e = length_record order debug_layout (debug_fields h) (rw e)

pub within_debug : (order : ByteOrder) (h : Hdrr) (l : List ℕ) (o : ℕ) → length h.words ≡ 23 → Within (debug_bytes order h) o l → debug_at order l o ≡ h
unfolding debug_bytes debug_layout debug_from debug_fields debug_at
within_debug order h l o e v = ap debug_from (within_fields order debug_layout (debug_fields h) l o refl (rw e) v)

-- the file header
elf_fields_lem : (h : ElfHeader) → length h.e_ident ≡ 16 → length (elf_fields h) ≡ length elf_layout
unfolding elf_fields elf_layout
elf_fields_lem h e = rw (length-append, e)

elf_of : (h : ElfHeader) → length h.e_ident ≡ 16 → elf_from (elf_fields h) ≡ h
unfolding elf_from elf_fields
elf_of h e =
    let b = h.e_ident in
    let t : List ℕ = h.e_type ∷ h.e_machine ∷ h.e_version ∷ h.e_entry ∷ h.e_phoff ∷ h.e_shoff ∷ h.e_flags ∷ h.e_ehsize ∷ h.e_phentsize ∷ h.e_phnum ∷ h.e_shentsize ∷ h.e_shnum ∷ h.e_shstrndx ∷ [] in
    let behind : (k : ℕ) → get_or (b ++ t) (16 + k) 0 ≡ get_or t k 0 = λ k. rw (← e) (get_or-append-add b t k 0) in
    λ i. record {
      e_ident = take_at b t 16 e i;
      e_type = behind 0 i;
      e_machine = behind 1 i;
      e_version = behind 2 i;
      e_entry = behind 3 i;
      e_phoff = behind 4 i;
      e_shoff = behind 5 i;
      e_flags = behind 6 i;
      e_ehsize = behind 7 i;
      e_phentsize = behind 8 i;
      e_phnum = behind 9 i;
      e_shentsize = behind 10 i;
      e_shnum = behind 11 i;
      e_shstrndx = behind 12 i;
    }

pub length_elf : (order : ByteOrder) (h : ElfHeader) → length h.e_ident ≡ 16 → length (elf_bytes order h) ≡ 52
unfolding elf_bytes
length_elf order h e = length_record order elf_layout (elf_fields h) (elf_fields_lem h e) ∙ elf_width

pub within_elf : (order : ByteOrder) (h : ElfHeader) (l : List ℕ) (o : ℕ) → length h.e_ident ≡ 16 → Within (elf_bytes order h) o l → elf_at order l o ≡ h
unfolding elf_bytes elf_at elf_layout
within_elf order h l o e v = ap elf_from (within_fields order elf_layout (elf_fields h) l o refl (elf_fields_lem h e) v) ∙ elf_of h e

-- relocation entries, with an addend and with none
count : (x y : ℕ) (a : Option ℕ) → length (x ∷ y ∷ addend_fields a) ≡ length (relocation_layout (present a))
unfolding addend_fields relocation_layout present
count x y (Some b) = refl
count x y None = refl

full : (b : Bool) → positive (relocation_layout b) ≡ true
unfolding relocation_layout
full true = refl
full false = refl

made : (x y : ℕ) (a : Option ℕ) → relocation_from (present a) (x ∷ y ∷ addend_fields a) ≡ record { r_offset = x; r_info = y; r_addend = a }
unfolding relocation_from addend_of addend_fields present
made x y (Some b) = refl
made x y None = refl

relocation_fields_lem : (r : RelocationEntry) → length (relocation_fields r) ≡ length (relocation_layout (has_addend r))
unfolding relocation_fields has_addend
relocation_fields_lem r = count r.r_offset r.r_info r.r_addend

pub length_relocation : (order : ByteOrder) (r : RelocationEntry) → length (relocation_bytes order r) ≡ width_of (relocation_layout (has_addend r))
unfolding relocation_bytes
length_relocation order r = length_record order (relocation_layout (has_addend r)) (relocation_fields r) (relocation_fields_lem r)

pub within_relocation : (order : ByteOrder) (rela : Bool) (r : RelocationEntry) (l : List ℕ) (o : ℕ) → rela ≡ has_addend r → Within (relocation_bytes order r) o l
    → relocation_at order rela l o ≡ r
unfolding relocation_bytes relocation_fields relocation_at has_addend
within_relocation order rela r l o e v =
    rw e
    (ap (relocation_from (has_addend r)) (within_fields order (relocation_layout (has_addend r)) (relocation_fields r) l o (full (has_addend r)) (relocation_fields_lem r) v)
    ∙ made r.r_offset r.r_info r.r_addend)

-- a record depends on its own bytes alone, so it may be read in a part of the file, or after a write elsewhere (lists, `part_of_part`, `part_before`, `part_after`)
module _ (order : ByteOrder) (l m : List ℕ) (o p : ℕ) where
  pub section_same : take 40 (drop o l) ≡ take 40 (drop p m) → section_at order l o ≡ section_at order m p
  unfolding section_at section_layout width_of
  section_same e = ap section_from (fields_same order section_layout l m o p e)

  pub symbol_same : take 16 (drop o l) ≡ take 16 (drop p m) → symbol_at order l o ≡ symbol_at order m p
  unfolding symbol_at symbol_layout width_of
  symbol_same e = ap symbol_from (fields_same order symbol_layout l m o p e)

  pub relocation_same : (rela : Bool) → take (width_of (relocation_layout rela)) (drop o l) ≡ take (width_of (relocation_layout rela)) (drop p m)
      → relocation_at order rela l o ≡ relocation_at order rela m p
  unfolding relocation_at
  relocation_same rela e = ap (relocation_from rela) (fields_same order (relocation_layout rela) l m o p e)

  pub elf_same : take 52 (drop o l) ≡ take 52 (drop p m) → elf_at order l o ≡ elf_at order m p
  unfolding elf_at elf_layout width_of
  elf_same e = ap elf_from (fields_same order elf_layout l m o p e)

  pub debug_same : take 96 (drop o l) ≡ take 96 (drop p m) → debug_at order l o ≡ debug_at order m p
  unfolding debug_at debug_layout width_of
  debug_same e = ap debug_from (fields_same order debug_layout l m o p e)
