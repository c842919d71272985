-- The merged object, read by the gABI's readers: how many sections it has, their headers, and their names. Assumes nothing.
use Rattle.std.specs.Prelude.{None}
use Prim.Native.Nat.{ℕ, ◌+◌, ◌-◌, ◌≤◌, ◌<◌}
use mathlib.Core.Path.{◌≡◌, refl, sym, ap, ◌∙◌}
use mathlib.Core.Logic.{◌≢◌}
use mathlib.Core.Bool.{Bool, true, false}
use mathlib.Core.List.{List, [], ◌∷◌, ◌++◌, append_assoc}
use native.Mathlib.Omega.{arith}
use native.Mathlib.Nat.{add-zero}
use lib.ListN.{length, get_or}
use borrow.Author.Tests.{lt-ltb, le-ltb, ne_eqb}
use Rattle.base_lists.specs.Ranges.{first_from, first, gather}
use Rattle.base_lists.specs.Strings.{zero_at, name_at}
use Rattle.base_lists.proofs.Ranges.{none_first, gather_split}
use Rattle.base_lists.proofs.Strings.{false_zero, name_append, name_behind, name_written_lem}
use Rattle.base_fields.specs.declared.ByteOrder.{ByteOrder}
use Rattle.base_scope.specs.Text.{text}
use Rattle.base_scope.specs.Elf.{SHT_NULL, SHT_STRTAB, SHT_NOBITS, SHT_MIPS_DEBUG}
use Rattle.base_scope.specs.Codes.{LINES, section_codes, code_name, target_code}
use Rattle.elf_records.specs.declared.section.SectionHeader.{SectionHeader}
use Rattle.elf_readers.specs.Readers.{header, section_count, section, contents, is_strtab, section_strings, section_name}
use Rattle.elf_relocations.specs.Relocations.{is_rela}
use Rattle.elf_check.specs.Sound.{Sound}
use Rattle.blocks_places.specs.Places.{Place}
use Rattle.merge_kept.specs.Kept.{kept}
use Rattle.merge_kept.proofs.Kept.{kept_le, strings_kept}
use Rattle.carry_entries.specs.of_carry_clash.Clash.{joined_name, carried_code}
use Rattle.carry_homes.specs.Homes.{carried_table, home_name, new_count, opened_by, new_name}
use Rattle.carry_homes.proofs.Names.{by_code}
use Rattle.carry_homes.proofs.Joins.{goal_lines, opened_lt}
use Rattle.write_strings.specs.Strings.{zero_ended}
use Rattle.write_object.specs.Object.{Plan, has_place, written_offset, written_size, written_heading, is_moved_debug, written_content, moved_finding}
use Rattle.write_object.specs.Steps.{heading_with}
use Rattle.write_object.proofs.Own.{own_ident}
use Rattle.write_object.proofs.Content.{content_kept}
use Rattle.write_object.proofs.ReadBack.{count_back, section_back, contents_nobits, contents_null, contents_back, name_back}
use Rattle.write_plan.specs.Plan.{new_names, planned_bytes, own_bytes, kept_heading, new_heading, merged_plan, merged_object}
use Rattle.write_plan.proofs.Sections.{strtab_type, null_parts, null_kept, null_bytes, names_bytes, names_front}

-- ---- the name of a table has no zero byte

full_name : (r : Bool) (c : ℕ) → 1 ≤ c → c ≤ LINES → first (zero_at (joined_name r c)) 0 (length (joined_name r c)) ≡ length (joined_name r c)
unfolding first_from joined_name code_name section_codes text zero_at
full_name true c l u = by_code c l u (λ e. rw e) (λ e. rw e) (λ e. rw e) (λ e. rw e)
full_name false c l u = by_code c l u (λ e. rw e) (λ e. rw e) (λ e. rw e) (λ e. rw e)

module _ (o : ByteOrder) (C A : List ℕ) (stay : ℕ) where
  new_full : (i : ℕ) → i < new_count o C A stay → (k : ℕ) → k < length (new_name o C A stay i) → get_or (new_name o C A stay i) k 0 ≡ 0 → ⊥
  unfolding new_name home_name
  new_full i h k l =
      let j : ℕ = opened_by o C A stay i in
      let g = goal_lines o A j (opened_lt o C A stay i h) in
      let n : List ℕ = joined_name (is_rela o A (carried_table o A j)) (target_code (carried_code o A (carried_table o A j))) in
      false_zero n k (none_first (zero_at n) 0 (length n) k (full_name _ _ g.0 g.1) (omega arith) l)

  -- the names of new sections, each read where it begins
  pub new_names_read : (i n : ℕ) → i < n → n ≤ new_count o C A stay → name_at (new_names o C A stay n) (length (new_names o C A stay i)) ≡ new_name o C A stay i
  unfolding new_names zero_ended
  new_names_read i n h u =
      let f : ℕ → List ℕ = λ j. zero_ended (new_name o C A stay j) in
      let name : List ℕ = new_name o C A stay i in
      let g = gather_split (λ j. true) f i n h refl in
      let front : List ℕ = gather (λ j. true) f i in
      let e : f i ++ g.0 ≡ name ++ (0 ∷ g.0) = append_assoc name (0 ∷ []) g.0 in
      ap (λ (x : List ℕ). name_at x (length front)) g.1
      ∙ ap (name_at (front ++ (f i ++ g.0))) (sym (add-zero (length front)))
      ∙ name_behind front (f i ++ g.0) 0
      ∙ ap (λ (x : List ℕ). name_at x 0) e
      ∙ name_written_lem name g.0 (new_full i (omega arith))

module _ (o : ByteOrder) (C A : List ℕ) (P : List Place) (B path : List ℕ) (flag mode : ℕ) where
  abbrev p : Plan
  p = merged_plan o C A P B path flag mode

  abbrev O : List ℕ
  O = merged_object o C A P B path flag mode

  abbrev stay : ℕ
  stay = kept o C flag

  abbrev new : ℕ
  new = new_count o C A (kept o C flag)

  -- ---- the plan

  pub many_is : p.many ≡ stay + new
  unfolding merged_plan
  many_is = refl

  pub heading_kept : (i : ℕ) → i < stay → p.heading i ≡ kept_heading o C A P B path flag mode i
  unfolding merged_plan
  heading_kept i h = rw (lt-ltb i stay h)

  pub heading_new : (i : ℕ) → p.heading (stay + i) ≡ new_heading o C A P B path flag mode i
  unfolding merged_plan
  heading_new i =
      let l : stay ≤ stay + i = omega arith in
      let e : stay + i - stay ≡ i = omega arith in
      rw (le-ltb (stay + i) stay l, e)

  pub content_is : (i : ℕ) → p.content i ≡ planned_bytes o C A P B path flag mode i
  unfolding merged_plan
  content_is i = refl

  pub type_kept : (i : ℕ) → i < stay → (p.heading i).sh_type ≡ (section o C i).sh_type
  unfolding kept_heading
  type_kept i h = ap (λ (x : SectionHeader). x.sh_type) (heading_kept i h)

  written_is : (i : ℕ) → written_heading p i ≡ heading_with (p.heading i) (written_offset p i) (written_size p i)
  unfolding written_heading heading_with
  written_is i = refl

  -- sections that have a place, and no debug section, keep what the plan says
  pub placed_typed : (i : ℕ) → (p.heading i).sh_type ≢ SHT_NULL → (p.heading i).sh_type ≢ SHT_NOBITS → has_place (p.heading i) ≡ true
  unfolding has_place
  placed_typed i a b = rw (ne_eqb (p.heading i).sh_type SHT_NULL a, ne_eqb (p.heading i).sh_type SHT_NOBITS b)

  pub still_typed : (i : ℕ) → (p.heading i).sh_type ≢ SHT_MIPS_DEBUG → is_moved_debug p i ≡ false
  unfolding is_moved_debug
  still_typed i n = rw (ne_eqb (p.heading i).sh_type SHT_MIPS_DEBUG n)

  pub content_still : (i : ℕ) → (p.heading i).sh_type ≢ SHT_MIPS_DEBUG → written_content p o i ≡ planned_bytes o C A P B path flag mode i
  content_still i n = content_kept p o i (still_typed i n) ∙ content_is i

  module _ (clear : moved_finding p o ≡ None) where
    -- ---- headers

    pub merged_count_lem : section_count o O ≡ stay + new
    unfolding merged_object
    merged_count_lem = count_back p o (header o C) (own_ident o C) clear ∙ many_is

    pub merged_header : (i : ℕ) → i < stay + new → section o O i ≡ heading_with (p.heading i) (written_offset p i) (written_size p i)
    unfolding merged_object
    merged_header i h = section_back p o (header o C) (own_ident o C) clear i (rw many_is h) ∙ written_is i

    -- a section that stays has C's header, but for its offset and size and the symbol table's sh_info
    pub kept_header : (i : ℕ) → i < stay → section o O i ≡ heading_with (kept_heading o C A P B path flag mode i) (written_offset p i) (written_size p i)
    kept_header i h = merged_header i (omega arith) ∙ ap (λ (x : SectionHeader). heading_with x (written_offset p i) (written_size p i)) (heading_kept i h)

    pub new_header : (i : ℕ) → i < new
        → section o O (stay + i) ≡ heading_with (new_heading o C A P B path flag mode i) (written_offset p (stay + i)) (written_size p (stay + i))
    new_header i h =
        merged_header (stay + i) (omega arith)
        ∙ ap (λ (x : SectionHeader). heading_with x (written_offset p (stay + i)) (written_size p (stay + i))) (heading_new i)

    -- and what it holds
    pub merged_contents : (i : ℕ) → i < stay + new → (p.heading i).sh_type ≢ SHT_NULL → (p.heading i).sh_type ≢ SHT_NOBITS → (p.heading i).sh_type ≢ SHT_MIPS_DEBUG
        → contents o O i ≡ planned_bytes o C A P B path flag mode i
    unfolding merged_object
    merged_contents i h a b n = contents_back p o (header o C) (own_ident o C) clear i (rw many_is h) (placed_typed i a b) ∙ content_still i n

    -- a debug section's words move with it; a section of type NOBITS and section 0 hold none
    pub debug_merged : (i : ℕ) → i < stay → (section o C i).sh_type ≡ SHT_MIPS_DEBUG → contents o O i ≡ written_content p o i
    unfolding merged_object
    debug_merged i h e =
        let t : (p.heading i).sh_type ≡ SHT_MIPS_DEBUG = type_kept i h ∙ e in
        contents_back p o (header o C) (own_ident o C) clear i (rw many_is (omega arith)) (placed_typed i (λ q. omega (arith, t, q)) (λ q. omega (arith, t, q)))

    pub nobits_merged : (i : ℕ) → i < stay → (section o C i).sh_type ≡ SHT_NOBITS → contents o O i ≡ []
    unfolding merged_object
    nobits_merged i h e = contents_nobits p o (header o C) (own_ident o C) clear i (rw many_is (omega arith)) (type_kept i h ∙ e)

    -- ---- names

    module _ (sound : Sound o C) (names : is_strtab o C (header o C).e_shstrndx ≡ true) where
      pub null_merged : contents o O 0 ≡ []
      unfolding merged_object
      null_merged =
          let h = null_kept o C A P B path flag mode sound names in
          contents_null p o (header o C) (own_ident o C) clear 0 (rw many_is (omega (arith, h))) (type_kept 0 h ∙ (null_parts o C sound).0)
          (content_is 0 ∙ null_bytes o C A P B path flag mode sound names)

      abbrev s : ℕ
      s = (header o C).e_shstrndx

      names_type : (p.heading s).sh_type ≡ SHT_STRTAB
      names_type = type_kept s (strings_kept o C flag s names) ∙ strtab_type o C s names

      pub name_at_lem : (i : ℕ) → i < stay + new
          → section_name o O i ≡ name_at (own_bytes o C A P B path flag mode s ++ new_names o C A stay new) (p.heading i).sh_name
      unfolding merged_object
      name_at_lem i h =
          let there : s < p.many = rw many_is (omega (arith, strings_kept o C flag s names)) in
          name_back p o (header o C) (own_ident o C) clear s refl there
          (placed_typed s (λ q. omega (arith, names_type, q)) (λ q. omega (arith, names_type, q)))
          (still_typed s (λ q. omega (arith, names_type, q))) i (rw many_is h)
          ∙ ap (λ (x : List ℕ). name_at x (p.heading i).sh_name) (content_is s ∙ names_bytes o C A P B path flag mode sound names)

      name_place_kept : (i : ℕ) → i < stay → (p.heading i).sh_name ≡ (section o C i).sh_name
      unfolding kept_heading
      name_place_kept i h = ap (λ (x : SectionHeader). x.sh_name) (heading_kept i h)

      name_place_new : (i : ℕ) → (p.heading (stay + i)).sh_name ≡ length (own_bytes o C A P B path flag mode s) + length (new_names o C A stay i)
      unfolding new_heading
      name_place_new i = ap (λ (x : SectionHeader). x.sh_name) (heading_new i)

      -- a section that stays has its name
      pub kept_name : (i : ℕ) → i < stay → section_name o O i ≡ section_name o C i
      unfolding section_name
      kept_name i h =
          let f = names_front o C A P B path flag mode sound names in
          let x : ℕ = (section o C i).sh_name in
          let N : List ℕ = new_names o C A stay new in
          let l : i < section_count o C = omega (arith, kept_le o C flag) in
          let e : own_bytes o C A P B path flag mode s ++ N ≡ section_strings o C ++ (f.0 ++ N)
          = ap (λ (y : List ℕ). y ++ N) f.1 ∙ append_assoc (section_strings o C) f.0 N in
          name_at_lem i (omega arith)
          ∙ ap (name_at (own_bytes o C A P B path flag mode s ++ N)) (name_place_kept i h)
          ∙ ap (λ (y : List ℕ). name_at y x) e
          ∙ name_append (section_strings o C) (f.0 ++ N) x (sound.section_ends i l)

      -- and a new one has the name of the tables that it is for
      pub new_name_read : (i : ℕ) → i < new → section_name o O (stay + i) ≡ new_name o C A stay i
      new_name_read i h =
          let D : List ℕ = own_bytes o C A P B path flag mode s in
          let N : List ℕ = new_names o C A stay new in
          name_at_lem (stay + i) (omega arith)
          ∙ ap (name_at (D ++ N)) (name_place_new i)
          ∙ name_behind D N (length (new_names o C A stay i))
          ∙ new_names_read o C A stay i new h (omega arith)
