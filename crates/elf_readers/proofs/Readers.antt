-- Laws of the readers: which bytes the header fields are, and the byte order that a file states. Assumes nothing.
use mathlib.Core.Path.{◌≡◌, refl, sym, ap, ◌∙◌}
use mathlib.Core.Bool.{true, false}
use mathlib.Core.List.{List, []}
use Prim.Native.Nat.{ℕ, ◌+◌, ◌-◌, ◌*◌, ◌≤◌, ◌<◌}
use lib.ListN.{length, take, drop, get_or, length-take, length-drop, get_or-eq_default}
use native.Mathlib.Omega.{arith}
use lib.Dec.{ltb}
use borrow.Author.Tests.{eq-eqb, ne_eqb, lt-ltb, le-ltb, ltb-true, eqb-true}
use Rattle.base_lists.proofs.Ranges.{by-test, and_parts, first_is}
use Rattle.base_lists.proofs.Strings.{same_true}
use Rattle.elf_records.specs.declared.section.SectionHeader.{SectionHeader}
use Rattle.base_scope.specs.Codes.{CODES, code_name}
use Rattle.base_scope.specs.Elf.{SHT_NOBITS, SHT_STRTAB}
use Rattle.base_scope.proofs.Codes.{names_apart}
use Rattle.elf_readers.specs.Bounds.{Headed}
use lib.Dec.{eqb}
use Rattle.base_fields.specs.declared.ByteOrder.{ByteOrder}
use Rattle.base_fields.specs.declared.ByteOrder.TheVariants.{Big, Little}
use Rattle.base_lists.specs.Strings.{same, name_at}
use Rattle.base_fields.specs.Layouts.{fields_from}
use Rattle.base_fields.specs.Numbers.{number}
use Rattle.elf_records.specs.Header.{elf_at, elf_from, elf_layout}
use Rattle.elf_records.specs.Section.{section_at, section_from, section_layout}
use Rattle.elf_readers.specs.Readers.{order_of, header, section_count, header_place, section, contents, is_strtab, section_strings, section_name, has_name, section_named, coded_section, has_code, coded_contents}

module _ (o : ByteOrder) (F : List ℕ) where
  pub count_at : section_count o F ≡ number o 2 F 48
  unfolding section_count header elf_at elf_from elf_layout fields_from
  count_at = refl

  pub shoff_at : (header o F).e_shoff ≡ number o 4 F 32
  unfolding header elf_at elf_from elf_layout fields_from
  shoff_at = refl

  pub shstrndx_at : (header o F).e_shstrndx ≡ number o 2 F 50
  unfolding header elf_at elf_from elf_layout fields_from
  shstrndx_at = refl

  pub place_at : (i : ℕ) → header_place o F i ≡ number o 4 F 32 + 40 * i
  unfolding header_place
  place_at i = rw shoff_at

  -- where a header stands, from where the first does; and words of it
  pub place_from_lem : (i : ℕ) → header_place o F i ≡ header_place o F 0 + 40 * i
  unfolding header_place
  place_from_lem i = omega arith

  module _ (i : ℕ) where
    pub name_word : number o 4 F (header_place o F i + 4 * 0) ≡ (section o F i).sh_name
    unfolding section section_at section_from section_layout fields_from
    name_word = refl

    pub type_word : number o 4 F (header_place o F i + 4 * 1) ≡ (section o F i).sh_type
    unfolding section section_at section_from section_layout fields_from
    type_word = refl

    pub offset_word : number o 4 F (header_place o F i + 4 * 4) ≡ (section o F i).sh_offset
    unfolding section section_at section_from section_layout fields_from
    offset_word = refl

    pub size_word : number o 4 F (header_place o F i + 4 * 5) ≡ (section o F i).sh_size
    unfolding section section_at section_from section_layout fields_from
    size_word = refl

module _ (F : List ℕ) where
  pub order_short : length F ≤ 5 → Big ≡ order_of F
  unfolding order_of
  order_short h = rw (get_or-eq_default F 0 h)

  pub order_little : get_or F 5 0 ≡ 1 → Little ≡ order_of F
  unfolding order_of
  order_little e = rw (eq-eqb _ _ e)

  pub order_big : (get_or F 5 0 ≡ 1 → ⊥) → Big ≡ order_of F
  unfolding order_of
  order_big e = rw (ne_eqb _ _ e)

-- a section's bytes, by its header
module _ (o : ByteOrder) (F : List ℕ) (i : ℕ) (h : SectionHeader) (is : h ≡ section o F i) where
  pub contents_none : h.sh_type ≡ SHT_NOBITS → [] ≡ contents o F i
  unfolding contents
  contents_none e = rw (← is, eq-eqb _ _ e)

  pub contents_part : (h.sh_type ≡ SHT_NOBITS → ⊥) → take (h.sh_offset + h.sh_size - h.sh_offset) (drop h.sh_offset F) ≡ contents o F i
  unfolding contents
  contents_part e =
      let n : h.sh_offset + h.sh_size - h.sh_offset ≡ h.sh_size = omega arith in
      rw (← is, ne_eqb _ _ e, n)

-- or its words
pub words_part : (o : ByteOrder) (F : List ℕ) (i from size : ℕ) → from ≡ (section o F i).sh_offset → size ≡ (section o F i).sh_size
    → ((section o F i).sh_type ≡ SHT_NOBITS → ⊥) → take (from + size - from) (drop from F) ≡ contents o F i
words_part o F i from size p q e = rw (p, q) (contents_part o F i (section o F i) refl e)

pub strtab_there : (o : ByteOrder) (F : List ℕ) (i kind : ℕ) → kind ≡ (section o F i).sh_type → i < section_count o F → eqb kind SHT_STRTAB ≡ is_strtab o F i
unfolding is_strtab
strtab_there o F i kind is l = rw (lt-ltb _ _ l, is)

pub strtab_past : (o : ByteOrder) (F : List ℕ) (i : ℕ) → section_count o F ≤ i → false ≡ is_strtab o F i
unfolding is_strtab
strtab_past o F i l = rw (le-ltb _ _ l)

-- a section's name, from where it starts in the names' table
pub name_placed : (o : ByteOrder) (F : List ℕ) (i at : ℕ) (s : List ℕ) → at ≡ (section o F i).sh_name → s ≡ section_strings o F → name_at s at ≡ section_name o F i
unfolding section_name
name_placed o F i at s is table = rw (is, table)

pub has_name_read : (o : ByteOrder) (F : List ℕ) (i at : ℕ) (s name : List ℕ) → at ≡ (section o F i).sh_name → s ≡ section_strings o F
    → same (name_at s at) name ≡ has_name o F name i
unfolding has_name section_name
has_name_read o F i at s name is table = rw (is, table)

pub strtab_lt : (o : ByteOrder) (F : List ℕ) (i : ℕ) → is_strtab o F i ≡ true → i < section_count o F
unfolding is_strtab
strtab_lt o F i e = ltb-true i (section_count o F) (and_parts (ltb i (section_count o F)) _ e).0

-- and it has bytes
pub strtab_held : (o : ByteOrder) (F : List ℕ) (i : ℕ) → is_strtab o F i ≡ true → (section o F i).sh_type ≡ SHT_NOBITS → ⊥
unfolding is_strtab
strtab_held o F i e n =
    let t : (section o F i).sh_type ≡ SHT_STRTAB = eqb-true _ _ (and_parts (ltb i (section_count o F)) _ e).1 in
    omega arith

-- ---- the section of a code

module _ (o : ByteOrder) (F : List ℕ) (c : ℕ) where
  pub code_there : has_code o F c ≡ true → coded_section o F c < section_count o F
  unfolding has_code
  code_there t = ltb-true _ _ t

  pub code_yes : coded_section o F c < section_count o F → has_code o F c ≡ true
  unfolding has_code
  code_yes h = lt-ltb _ _ h

  pub code_no : section_count o F ≤ coded_section o F c → has_code o F c ≡ false
  unfolding has_code
  code_no h = le-ltb _ _ h

  pub coded_there : coded_section o F c < section_count o F → coded_contents o F c ≡ contents o F (coded_section o F c)
  unfolding coded_contents
  coded_there h = rw (code_yes h)

  pub coded_absent : section_count o F ≤ coded_section o F c → coded_contents o F c ≡ []
  unfolding coded_contents
  coded_absent h = rw (code_no h)

-- what a section holds is never longer than the file
pub contents_short : (o : ByteOrder) (F : List ℕ) (i : ℕ) → length (contents o F i) ≤ length F
unfolding contents
contents_short o F i = by-test (eqb (section o F i).sh_type SHT_NOBITS)
    (λ t. rw t (omega arith))
    (λ f.
    rw (f, length-take, length-drop)
    (omega arith))

pub coded_short : (o : ByteOrder) (F : List ℕ) (c : ℕ) → length (coded_contents o F c) ≤ length F
unfolding coded_contents
coded_short o F c = by-test (has_code o F c)
    (λ t. rw t (contents_short o F (coded_section o F c)))
    (λ f. rw f (omega arith))

-- the section of a code has its name, so codes have different sections
pub coded_name : (o : ByteOrder) (F : List ℕ) (c : ℕ) → coded_section o F c < section_count o F → section_name o F (coded_section o F c) ≡ code_name c
unfolding coded_section section_named has_name
coded_name o F c h = same_true _ _ ((first_is (has_name o F (code_name c)) 0 (section_count o F) (omega arith)).here h)

pub codes_apart : (o : ByteOrder) (F : List ℕ) (c d : ℕ) → 1 ≤ c → c ≤ CODES → 1 ≤ d → d ≤ CODES → coded_section o F c < section_count o F
    → coded_section o F c ≡ coded_section o F d → c ≡ d
codes_apart o F c d l h m k t e =
    let u : coded_section o F d < section_count o F = rw (← e) t in
    names_apart c d l h m k (sym (coded_name o F c t) ∙ ap (section_name o F) e ∙ coded_name o F d u)
