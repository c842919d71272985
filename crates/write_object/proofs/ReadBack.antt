-- The written object, read by the gABI's readers, is what the plan says: its file header, its section headers, the bytes and the names of its sections, and the tables that they
-- hold. Assumes nothing.
use Rattle.std.specs.Prelude.{None}
use Prim.Native.Nat.{ℕ, ◌+◌, ◌*◌, ◌≤◌, ◌<◌}
use mathlib.Core.Path.{◌≡◌, sym, ap, ◌∙◌}
use mathlib.Core.Logic.{◌≢◌}
use mathlib.Core.Bool.{true, false, ◌||◌}
use mathlib.Core.List.{List, []}
use native.Mathlib.Omega.{arith}
use lib.ListN.{length, take, drop}
use lib.Dec.{eqb}
use borrow.Author.Tests.{eq-eqb, ne_eqb, eqb-true, not-true}
use Rattle.base_lists.specs.Strings.{name_at}
use Rattle.base_lists.specs.Windows.{Within}
use Rattle.base_lists.proofs.Ranges.{by-test, both, or_parts}
use Rattle.base_lists.proofs.Windows.{within_within, within_fits, within_read}
use Rattle.base_fields.specs.declared.ByteOrder.{ByteOrder}
use Rattle.base_scope.specs.Limits.{SECTION_LIMIT}
use Rattle.base_scope.specs.Elf.{SHT_NULL, SHT_NOBITS}
use Rattle.elf_records.specs.declared.header.ElfHeader.{ElfHeader}
use Rattle.elf_records.specs.declared.section.SectionHeader.{SectionHeader}
use Rattle.elf_records.proofs.RoundTrip.{within_elf, length_elf, within_section, length_section}
use Rattle.elf_readers.specs.Readers.{header, section_count, header_place, section, contents, section_strings, section_name}
use Rattle.elf_readers.specs.Bounds.{Headed, Named}
use Rattle.write_image.specs.Layout.{HEADING_SIZE, headings_at}
use Rattle.write_object.specs.Object.{Plan, has_place, layout_of, written_offset, written_size, is_moved_debug, written_content, written_front, written_heading, moved_finding, object_bytes}
use Rattle.write_object.proofs.Content.{content_long, content_kept, ident_kept, front_within, heading_within, content_within}

-- ---- which sections have a place

place_types : (h : SectionHeader) → has_place h ≡ true → (eqb h.sh_type SHT_NULL ≡ false) × (eqb h.sh_type SHT_NOBITS ≡ false)
unfolding has_place
place_types h t = or_parts (eqb h.sh_type SHT_NULL) _ (not-true (eqb h.sh_type SHT_NULL || eqb h.sh_type SHT_NOBITS) t)

-- a section with a place is not of type NOBITS, and one without a place is of type NULL or NOBITS
pub place_held : (h : SectionHeader) → has_place h ≡ true → eqb h.sh_type SHT_NOBITS ≡ false
place_held h t = (place_types h t).1

unplaced_null : (h : SectionHeader) → has_place h ≡ false → h.sh_type ≢ SHT_NOBITS → h.sh_type ≡ SHT_NULL
unfolding has_place
unplaced_null h f n = by-test (eqb h.sh_type SHT_NULL)
    (λ t. eqb-true h.sh_type SHT_NULL t)
    (λ g. both (rw (g, ne_eqb h.sh_type SHT_NOBITS n)) f)

unplaced_offset : (p : Plan) (i : ℕ) → has_place (p.heading i) ≡ false → written_offset p i ≡ (p.heading i).sh_offset
unfolding written_offset
unplaced_offset p i f = rw f

module _ (p : Plan) (o : ByteOrder) (h : ElfHeader) (ident : length h.e_ident ≡ 16) (clear : moved_finding p o ≡ None) where
  abbrev O : List ℕ
  O = object_bytes p o h

  -- ---- the file header

  pub header_back : header o O ≡ written_front p h
  unfolding header
  header_back = within_elf o (written_front p h) O 0 (ident_kept p o clear h ident) (front_within p o clear h ident)

  pub count_back : section_count o O ≡ p.many
  unfolding section_count written_front
  count_back = ap (λ (x : ElfHeader). x.e_shnum) header_back

  pub header_place_back : (i : ℕ) → header_place o O i ≡ headings_at (layout_of p) + HEADING_SIZE * i
  unfolding header_place written_front
  header_place_back i = ap (λ (x : ElfHeader). x.e_shoff + 40 * i) header_back

  -- ---- the section headers

  module _ (i : ℕ) (below : i < p.many) where
    pub section_back : section o O i ≡ written_heading p i
    unfolding section
    section_back = rw (header_place_back i) (within_section o (written_heading p i) O (headings_at (layout_of p) + HEADING_SIZE * i) (heading_within p o clear h ident i below))

    pub headings_inside : header_place o O i + 40 ≤ length O
    headings_inside = omega (arith, header_place_back i, length_section o (written_heading p i), within_fits _ _ _ (heading_within p o clear h ident i below))

    pub type_back : (section o O i).sh_type ≡ (p.heading i).sh_type
    unfolding written_heading
    type_back = ap (λ (s : SectionHeader). s.sh_type) section_back

    pub offset_back : (section o O i).sh_offset ≡ written_offset p i
    unfolding written_heading
    offset_back = ap (λ (s : SectionHeader). s.sh_offset) section_back

    pub size_back : (section o O i).sh_size ≡ written_size p i
    unfolding written_heading
    size_back = ap (λ (s : SectionHeader). s.sh_size) section_back

    -- ---- the bytes of a section

    pub size_held : eqb (p.heading i).sh_type SHT_NOBITS ≡ false → written_size p i ≡ length (p.content i)
    unfolding written_size
    size_held f = rw f

    contents_read : eqb (p.heading i).sh_type SHT_NOBITS ≡ false → contents o O i ≡ take (length (p.content i)) (drop (written_offset p i) O)
    unfolding contents
    contents_read f = rw (type_back, f, size_back, size_held f, offset_back)

    -- a section of type NOBITS holds none, nor does a section of type NULL that the plan gives none
    pub contents_nobits : (p.heading i).sh_type ≡ SHT_NOBITS → contents o O i ≡ []
    unfolding contents
    contents_nobits e = rw (type_back, eq-eqb (p.heading i).sh_type SHT_NOBITS e)

    pub contents_null : (p.heading i).sh_type ≡ SHT_NULL → p.content i ≡ [] → contents o O i ≡ []
    contents_null e none =
        let n : (p.heading i).sh_type ≡ SHT_NOBITS → ⊥ = λ q. omega (arith, e, q) in
        rw (contents_read (ne_eqb (p.heading i).sh_type SHT_NOBITS n), none)

    module _ (placed : has_place (p.heading i) ≡ true) where
      -- every other section holds what the plan says
      pub contents_back : contents o O i ≡ written_content p o i
      contents_back =
          contents_read (place_held (p.heading i) placed)
          ∙ ap (λ (n : ℕ). take n (drop (written_offset p i) O)) (sym (content_long p o clear i below))
          ∙ within_read (written_content p o i) O (written_offset p i) (content_within p o clear h ident i below placed)

      -- inside the object
      pub contents_inside : (section o O i).sh_offset + (section o O i).sh_size ≤ length O
      contents_inside =
          omega (
            arith,
            offset_back,
            size_back,
            size_held (place_held (p.heading i) placed),
            content_long p o clear i below,
            within_fits (written_content p o i) O (written_offset p i) (content_within p o clear h ident i below placed),
          )

      -- and what stands in it stands in the object
      pub window_back : (b : List ℕ) (k : ℕ) → Within b k (written_content p o i) → Within b (written_offset p i + k) O
      window_back b k v = within_within b (written_content p o i) O (written_offset p i) k v (content_within p o clear h ident i below placed)

  -- ---- what reading it relies on (elf_readers, specs/Bounds.antt)

  pub whole_back : 52 ≤ length O
  whole_back = omega (arith, length_elf o (written_front p h) (ident_kept p o clear h ident), within_fits _ _ _ (front_within p o clear h ident))

  held_by_lem : (i : ℕ) → i < p.many → ((p.heading i).sh_type ≡ SHT_NULL → (p.heading i).sh_offset + length (p.content i) ≤ length O)
      → (section o O i).sh_type ≢ SHT_NOBITS → (section o O i).sh_offset + (section o O i).sh_size ≤ length O
  held_by_lem i below null n = by-test (has_place (p.heading i))
      (λ t. contents_inside i below t)
      (λ f.
      let held : (p.heading i).sh_type ≢ SHT_NOBITS = λ e. n (type_back i below ∙ e) in
      let size = size_held i below (ne_eqb (p.heading i).sh_type SHT_NOBITS held) in
      omega (arith, offset_back i below, size_back i below, size, unplaced_offset p i f, null (unplaced_null (p.heading i) f held)))

  -- the number of sections is the plan's, and so is the sh_offset that a section of type NULL keeps
  pub headed_back : p.many ≤ SECTION_LIMIT → ((i : ℕ) → i < p.many → (p.heading i).sh_type ≡ SHT_NULL → (p.heading i).sh_offset + length (p.content i) ≤ length O)
      → Headed o O
  headed_back few null = record {
    whole = whole_back;
    few = rw count_back few;
    inside = λ i below. headings_inside i (rw count_back at below);
    held = λ i below. let k : i < p.many = rw count_back at below in held_by_lem i k (null i k);
  }

  -- ---- names

  pub named_back : Headed o O → h.e_shstrndx < p.many → Named o O
  unfolding written_front
  named_back headed below = record { headed = headed; strings = rw (header_back, count_back) below }

  module _ (s : ℕ) (names : h.e_shstrndx ≡ s) (there : s < p.many) (placed : has_place (p.heading s) ≡ true) (still : is_moved_debug p s ≡ false) where
    names_back : (header o O).e_shstrndx ≡ s
    unfolding written_front
    names_back = ap (λ (x : ElfHeader). x.e_shstrndx) header_back ∙ names

    pub strings_back : section_strings o O ≡ p.content s
    unfolding section_strings
    strings_back = ap (contents o O) names_back ∙ contents_back s there placed ∙ content_kept p o s still

    pub name_back : (i : ℕ) → i < p.many → section_name o O i ≡ name_at (p.content s) (p.heading i).sh_name
    unfolding section_name written_heading
    name_back i below = rw (strings_back, section_back i below)
