-- The merged object has at most 255 sections and less than 2 ^ 32 bytes, so each word of its headers fits: no section holds more than the string table can, apart from the
-- entries of A's tables, which are shared out; and no gap is longer than an alignment. Assumes nothing.
use Prim.Native.Nat.{ℕ, zero, suc, ◌+◌, ◌-◌, ◌*◌, ◌^◌, ◌≤◌, ◌<◌}
use mathlib.Core.Path.{◌≡◌, sym, ap, ◌∙◌}
use mathlib.Core.Logic.{◌⊎◌, inl, inr, ⊎_elim}
use mathlib.Core.Bool.{Bool, true, false, cond}
use mathlib.Core.List.{List, []}
use native.Mathlib.Numerals.{add-one}
use native.Mathlib.Omega.{arith}
use lib.ListN.{length, length-append}
use lib.Dec.{eqb, ltb}
use borrow.Author.Tests.{lt-ltb, le-ltb}
use Rattle.base_lists.specs.Ranges.{count, sum, pick_list}
use Rattle.base_lists.proofs.Ranges.{by-test, by-lt, both, first_high}
use Rattle.base_fields.specs.declared.ByteOrder.{ByteOrder}
use Rattle.base_scope.specs.Elf.{SHT_RELA, SHT_REL, SHT_MIPS_DEBUG}
use Rattle.base_scope.specs.Codes.{BSS, REGINFO, code_name, target_code}
use Rattle.base_scope.specs.Limits.{FILE_LIMIT, SECTION_LIMIT, ALIGN_LIMIT, PATH_LIMIT, STATIC_LIMIT}
use Rattle.base_groups.specs.Groups.{in_group, grouped}
use Rattle.base_groups.proofs.Groups.{grouped_zero, grouped_long}
use Rattle.elf_records.specs.declared.section.SectionHeader.{SectionHeader}
use Rattle.elf_readers.specs.Readers.{header, section_count, section, has_name, section_named, coded_section}
use Rattle.elf_readers.proofs.Readers.{contents_short, coded_short}
use Rattle.elf_sections.proofs.Bounds.{sound_aligned}
use Rattle.elf_symbols.specs.Symbols.{is_symtab, symtab, strtab}
use Rattle.elf_relocations.specs.Relocations.{is_table, entry_size}
use Rattle.elf_relocations.proofs.Relocations.{size_cases}
use Rattle.elf_check.specs.Sound.{Sound}
use Rattle.blocks_places.specs.Places.{Place}
use Rattle.statics_table.specs.declared.Static.{Static}
use Rattle.statics_table.specs.Statics.{name_head}
use Rattle.statics_walk.specs.Walk.{statics}
use Rattle.statics_walk.proofs.Sound.{statics_sound}
use Rattle.merge_sections.proofs.Sections.{section_length, registers_length}
use Rattle.merge_kept.specs.Kept.{kept}
use Rattle.merge_kept.proofs.Kept.{kept_le}
use Rattle.symbols_numbers.proofs.Counts.{grouped_few}
use Rattle.carry_entries.specs.of_symbols_taken.Used.{is_section_of, code_of, is_source_table}
use Rattle.carry_entries.specs.of_carry_clash.Clash.{carried_code, is_carried}
use Rattle.carry_entries.specs.Entries.{carried_bytes}
use Rattle.carry_entries.specs.Carried.{carrying_c, carrying_a}
use Rattle.carry_homes.specs.Homes.{carried_rank, CARRIED_RANKS, carried_tables, carried_count, carried_table, new_count, opened_by, home_of, joined_bytes}
use Rattle.carry_homes.proofs.Tables.{carried_lt}
use Rattle.carry_homes.proofs.Joins.{new_few, opened_lt}
use Rattle.write_image.specs.Layout.{aligned_to, HEADER_END, HEADING_SIZE, Layout, end_before, start_of, headings_at, image_length}
use Rattle.write_image.proofs.Ends.{aligned_none, aligned_next, end_first, end_placed, end_unplaced}
use Rattle.write_object.specs.Object.{Plan, layout_of}
use Rattle.write_object.proofs.Words.{Words, fits_words}
use Rattle.write_plan.specs.Plan.{is_planned_table, table_bytes, own_bytes, added_names, planned_bytes, kept_heading, new_heading, merged_plan}
use Rattle.write_plan.proofs.Sections.{null_parts, table_typed, table_not, planned_kept, planned_new, table_holds, other_holds}
use Rattle.write_plan.proofs.Headers.{many_is, heading_kept, heading_new}
use Rattle.write_plan.proofs.Relocations.{carried_table_lem}
use Rattle.write_plan.proofs.Lengths.{STRING_LIMIT, sum_over, shared_sum, strings_limit, new_names_limit, carried_limit, symbols_limit, locals_limit}

-- ---- over any layout

aligned_limit : (end align : ℕ) → align ≤ ALIGN_LIMIT → aligned_to end align ≤ end + ALIGN_LIMIT
aligned_limit end align h = by-lt 0 align
    (λ s. omega (arith, h, aligned_next end align s))
    (λ n. let e : align ≡ 0 = omega (arith, n) in omega (arith, aligned_none end align e))

module _ (l : Layout) (aligned : (i : ℕ) → i < l.many → l.align i ≤ ALIGN_LIMIT) where
  end_limit : (n : ℕ) → n ≤ l.many → end_before l n ≤ HEADER_END + sum (λ i. ALIGN_LIMIT + l.size i) n
  unfolding sum start_of
  end_limit zero h = omega (arith, end_first l)
  end_limit (suc n) h = by-test (l.placed n)
      (λ t. rw (← add-one n) (omega (arith, end_placed l n t, aligned_limit (end_before l n) (l.align n) (aligned n (omega arith)), end_limit n (omega arith))))
      (λ f. rw (← add-one n) (omega (arith, end_unplaced l n f, end_limit n (omega arith))))

  pub image_limit : image_length l ≤ HEADER_END + sum (λ i. ALIGN_LIMIT + l.size i) l.many + 4 + HEADING_SIZE * l.many
  unfolding image_length headings_at
  image_limit = omega (arith, end_limit l.many (omega arith), aligned_next (end_before l l.many) 4 (omega arith))

-- ---- how many sections

count_shift : (p : ℕ → Bool) (m : ℕ) → p 0 ≡ false → count p (suc m) ≡ count (λ i. p (suc i)) m
unfolding count
count_shift p zero f = rw f
count_shift p (suc m) f = ap (λ (x : ℕ). cond (p (suc m)) (x + 1) x) (count_shift p m f)

-- where index 0 is not kept, those behind it are all
grouped_shift : (keep : ℕ → Bool) (group : ℕ → ℕ) (m : ℕ) → keep 0 ≡ false → (k : ℕ)
    → length (grouped keep group (suc m) k) ≡ length (grouped (λ i. keep (suc i)) (λ i. group (suc i)) m k)
unfolding in_group
grouped_shift keep group m f zero = ap length (grouped_zero keep group (suc m)) ∙ sym (ap length (grouped_zero (λ i. keep (suc i)) (λ i. group (suc i)) m))
grouped_shift keep group m f (suc k) =
    rw (← add-one k)
    (omega (
      arith,
      grouped_long keep group (suc m) k,
      grouped_long (λ i. keep (suc i)) (λ i. group (suc i)) m k,
      grouped_shift keep group m f k,
      count_shift (in_group keep group (suc m) k) m (rw f),
    ))

-- section 0 is no table
module _ (o : ByteOrder) (A : List ℕ) (sound : Sound o A) where
  null_uncarried : is_carried o A 0 ≡ false
  unfolding is_carried is_source_table
  null_uncarried =
      let e = (null_parts o A sound).0 in
      rw (table_not o A 0 (λ q. omega (arith, e, q)) (λ q. omega (arith, e, q)))

  carried_below : (m : ℕ) → section_count o A ≡ suc m → carried_count o A ≤ m
  unfolding carried_count carried_tables
  carried_below m e =
      let rank : ℕ → ℕ = λ t. carried_rank (carried_code o A t) in
      rw (e, grouped_shift (is_carried o A) rank m null_uncarried CARRIED_RANKS)
      (grouped_few (λ i. is_carried o A (suc i)) (λ i. rank (suc i)) m CARRIED_RANKS)

  pub carried_less : carried_count o A < SECTION_LIMIT
  carried_less =
      let n : ℕ = section_count o A in
      let e : n ≡ suc (n - 1) = omega (arith, sound.some) in
      omega (arith, carried_below (n - 1) e, sound.named.headed.few, sound.some)

-- ---- the merged object

-- the words of a new section's header that are not 0, but for its alignment
pub record NewWords (h : SectionHeader) (n : ℕ) : Type 0 where
  pub name : h.sh_name < n
  pub type : h.sh_type < n
  pub link : h.sh_link < n
  pub info : h.sh_info < n
  pub entry : h.sh_entsize < n

type_fits : (t : ℕ) → (t ≡ SHT_RELA) ⊎ (t ≡ SHT_REL) → t < 2 ^ 32
type_fits t (inl e) = omega (arith, e)
type_fits t (inr e) = omega (arith, e)

-- what the strings can be: no section of C holds more in the result
abbrev pub WIDEST : ℕ
WIDEST = FILE_LIMIT + FILE_LIMIT + STRING_LIMIT * STATIC_LIMIT

module _ (o : ByteOrder) (C A : List ℕ) (P : List Place) (B path : List ℕ) (flag mode : ℕ) where
  abbrev p : Plan
  p = merged_plan o C A P B path flag mode

  abbrev stay : ℕ
  stay = kept o C flag

  abbrev many : ℕ
  many = stay + new_count o C A (kept o C flag)

  abbrev head : ℕ
  head = length (name_head mode path)

  abbrev bytes : ℕ → List ℕ
  bytes = planned_bytes o C A P B path flag mode

  abbrev own : ℕ → List ℕ
  own = own_bytes o C A P B path flag mode

  abbrev joined : ℕ → List ℕ
  joined = joined_bytes o C A stay (carried_bytes o A (carrying_a o C A P B mode head))

  module _ (compiled : Sound o C) (assembled : Sound o A) where
    pub plan_many : p.many ≤ 255
    plan_many =
        omega (arith, many_is o C A P B path flag mode, kept_le o C flag, compiled.named.headed.few, new_few o C A stay, carried_less o A assembled)

    module _ (short : length C ≤ FILE_LIMIT) (brief : length A ≤ FILE_LIMIT) (named : length path ≤ PATH_LIMIT) where
      abbrev S : List Static
      S = statics o C mode head

      -- ---- what a section holds

      pub own_limit : (i : ℕ) → length (own i) ≤ WIDEST
      unfolding own_bytes
      own_limit i =
          let c = contents_short o C i in
          by-test (eqb (section o C i).sh_type SHT_MIPS_DEBUG)
          (λ t. rw t (omega (arith, short, c)))
          (λ a. by-test (eqb i (symtab o C))
          (λ t. rw (a, t) (omega (arith, symbols_limit o C A P B mode head S compiled assembled (statics_sound o C mode head))))
          (λ b. by-test (eqb i (strtab o C))
          (λ t. rw (a, b, t) (omega (arith, short, brief, strings_limit mode path C named o A S head (statics_sound o C mode head))))
          (λ d. by-test (is_section_of o C i REGINFO)
          (λ t. rw (a, b, d, t) (omega (arith, short, registers_length o C A, coded_short o C REGINFO)))
          (λ e. by-test (ltb (code_of o C i) BSS)
          (λ t. rw (a, b, d, e, t) (omega (arith, short, section_length o C A P B (code_of o C i), coded_short o C (code_of o C i))))
          (λ f. rw (a, b, d, e, f) (omega (arith, short, c)))))))

      pub added_limit : (i : ℕ) → length (added_names o C A P B path flag mode i) ≤ 13 * SECTION_LIMIT
      unfolding added_names
      added_limit i = by-test (eqb i (header o C).e_shstrndx)
          (λ t. rw t (omega (arith, new_names_limit o C A stay (new_count o C A stay) (omega arith), new_few o C A stay, carried_less o A assembled)))
          (λ f. rw f (omega arith))

      kept_limit : (i : ℕ) → is_planned_table o C A P B path flag mode i ≡ true
          → length (pick_list (ltb i stay) (carried_bytes o C (carrying_c o C A P B mode head) i) []) ≤ FILE_LIMIT
      kept_limit i t = by-lt i stay
          (λ l.
          let is : is_table o C i ≡ true = sym (planned_kept o C A P B path flag mode i l) ∙ t in
          let b = carried_limit o C compiled (carrying_c o C A P B mode head) i (omega (arith, l, kept_le o C flag)) is in
          rw (lt-ltb i stay l) (omega (arith, b, short)))
          (λ l. rw (le-ltb i stay l) (omega arith))

      table_limit : (i : ℕ) → is_planned_table o C A P B path flag mode i ≡ true → length (table_bytes o C A P B path flag mode i) ≤ FILE_LIMIT + length (joined i)
      unfolding table_bytes
      table_limit i t =
          let K : List ℕ = pick_list (ltb i stay) (carried_bytes o C (carrying_c o C A P B mode head) i) [] in
          omega (arith, length-append K (joined i), kept_limit i t)

      -- a section that stays holds at most so much, and what joins it
      abbrev HELD : ℕ
      HELD = WIDEST + 13 * SECTION_LIMIT

      planned_limit : (i : ℕ) → length (bytes i) ≤ HELD + length (joined i)
      planned_limit i = by-test (is_planned_table o C A P B path flag mode i)
          (λ t. rw (table_holds o C A P B path flag mode i t) (omega (arith, table_limit i t)))
          (λ f. by-lt i stay
          (λ l.
          let e = other_holds o C A P B path flag mode i l (sym (planned_kept o C A P B path flag mode i l) ∙ f) in
          rw e (omega (arith, length-append (own i) (added_names o C A P B path flag mode i), own_limit i, added_limit i)))
          (λ l. both (planned_new o C A P B path flag mode i l) f))

      -- A's tables are shared out
      joined_limit : (m : ℕ) → sum (λ i. length (joined i)) m ≤ FILE_LIMIT * carried_count o A
      unfolding joined_bytes
      joined_limit m =
          let w = carrying_a o C A P B mode head in
          shared_sum (home_of o C A stay) (λ j. carried_bytes o A w (carried_table o A j)) FILE_LIMIT (carried_count o A) m
          (λ j h. omega (arith, brief, carried_limit o A assembled w (carried_table o A j) (carried_lt o A j h) (carried_table_lem o A j h)))

      -- ---- and its alignment

      align_kept : (i : ℕ) → i < stay → (p.heading i).sh_addralign ≤ ALIGN_LIMIT
      unfolding kept_heading
      align_kept i h =
          let k : i < section_count o C = omega (arith, h, kept_le o C flag) in
          rw (heading_kept o C A P B path flag mode i h) (sound_aligned o C i (compiled.sections i k))

      align_new : (i : ℕ) → stay ≤ i → (p.heading i).sh_addralign ≤ ALIGN_LIMIT
      unfolding new_heading
      align_new i h =
          let q : i ≡ stay + (i - stay) = omega (arith, h) in
          let f : p.heading i ≡ new_heading o C A P B path flag mode (i - stay)
          = ap (λ (x : ℕ). p.heading x) q ∙ heading_new o C A P B path flag mode (i - stay) in
          rw f (omega arith)

      pub align_limit : (i : ℕ) → (p.heading i).sh_addralign ≤ ALIGN_LIMIT
      align_limit i = by-lt i stay (λ l. align_kept i l) (λ l. align_new i l)

      -- ---- together

      sizes_limit : (m : ℕ) → sum (λ i. ALIGN_LIMIT + length (bytes i)) m ≤ (ALIGN_LIMIT + HELD) * m + FILE_LIMIT * carried_count o A
      sizes_limit m =
          omega (
            arith,
            sum_over (λ i. ALIGN_LIMIT + length (bytes i)) (λ i. length (joined i)) (ALIGN_LIMIT + HELD) m (λ i l. omega (arith, planned_limit i)),
            joined_limit m,
          )

      image_is : image_length (layout_of p) ≤ HEADER_END + sum (λ i. ALIGN_LIMIT + length (bytes i)) p.many + 4 + HEADING_SIZE * p.many
      unfolding layout_of merged_plan
      image_is = image_limit (layout_of p) (λ i h. align_limit i)

      pub plan_fits : image_length (layout_of p) < 2 ^ 32
      plan_fits = omega (arith, image_is, sizes_limit p.many, plan_many, carried_less o A assembled)

      -- so offsets, sizes and e_shoff fit their words
      pub plan_words : Words p (2 ^ 32)
      plan_words = fits_words p (2 ^ 32) plan_fits

      -- nor does a word that the merge makes up in a header need more: the symbol table's sh_info, and those of new sections
      pub info_fits : (i : ℕ) → i < stay → eqb i (symtab o C) ≡ true → (p.heading i).sh_info < 2 ^ 32
      unfolding kept_heading
      info_fits i h t = rw (heading_kept o C A P B path flag mode i h, t) (omega (arith, locals_limit o C A P B mode head compiled assembled))

      pub new_fits : (i : ℕ) → i < new_count o C A stay → NewWords (new_heading o C A P B path flag mode i) (2 ^ 32)
      unfolding new_heading coded_section section_named symtab entry_size
      new_fits i h =
          let few = compiled.named.headed.few in
          let j : ℕ = opened_by o C A stay i in
          record {
            name = omega (arith, own_limit (header o C).e_shstrndx, new_names_limit o C A stay i (omega (arith, h)), h, new_few o C A stay, carried_less o A assembled);
            type = type_fits _ (table_typed o A (carried_table o A j) (carried_table_lem o A j (opened_lt o C A stay i h)));
            link = omega (arith, few, first_high (is_symtab o C) 0 (section_count o C) (omega arith));
            info = omega (arith, few, first_high (has_name o C (code_name (target_code (carried_code o A (carried_table o A j))))) 0 (section_count o C) (omega arith));
            entry = ⊎_elim (λ e. omega (arith, e)) (λ e. omega (arith, e)) (size_cases o A (carried_table o A j));
          }
