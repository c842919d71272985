-- The section names of the merged object: their table is C's, and each name has its end and is ASCII (refusal 4). Assumes nothing.
use Rattle.std.specs.Prelude.{None}
use Prim.Native.Nat.{ℕ, ◌+◌, ◌-◌, ◌≤◌, ◌<◌}
use mathlib.Core.Path.{◌≡◌, refl, ap, ◌∙◌}
use mathlib.Core.Bool.{Bool, true, false, not}
use mathlib.Core.List.{List, [], ◌∷◌, ◌++◌, append_assoc}
use native.Mathlib.Omega.{arith}
use lib.ListN.{length, get_or, length-append}
use lib.Seq.{get_or-append-add}
use borrow.Author.Tests.{lt-ltb, le-ltb, eq-eqb}
use Rattle.base_lists.specs.Ranges.{first_from, first, gather}
use Rattle.base_lists.specs.Strings.{zero_at, name_end, has_end, over_at, ascii}
use Rattle.base_lists.proofs.Ranges.{by-lt, and_true, first_none, some_yes, gather_split}
use Rattle.base_lists.proofs.Strings.{zero_true, has_end_append, has_end_behind}
use Rattle.base_fields.specs.declared.ByteOrder.{ByteOrder}
use Rattle.base_scope.specs.Text.{text}
use Rattle.base_scope.specs.Codes.{LINES, section_codes, code_name}
use Rattle.base_scope.specs.Elf.{SHT_STRTAB}
use Rattle.base_scope.specs.Refusals.{found_below}
use Rattle.base_scope.proofs.Refusals.{expect_true}
use Rattle.elf_records.specs.declared.header.ElfHeader.{ElfHeader}
use Rattle.elf_records.specs.declared.section.SectionHeader.{SectionHeader}
use Rattle.elf_readers.specs.Readers.{header, section_count, section, contents, is_strtab, section_strings}
use Rattle.elf_sections.specs.Names.{name_sound, bad_name, name_fault}
use Rattle.elf_check.specs.Sound.{Sound}
use Rattle.blocks_places.specs.Places.{Place}
use Rattle.merge_kept.specs.Kept.{kept}
use Rattle.merge_kept.proofs.Kept.{kept_le, strings_kept}
use Rattle.carry_clash.specs.Clash.{joined_name}
use Rattle.carry_homes.specs.Homes.{new_count, opened_by, home_name, new_name}
use Rattle.carry_homes.proofs.Names.{by_code}
use Rattle.carry_homes.proofs.Joins.{goal_lines, opened_lt}
use Rattle.write_strings.specs.Strings.{zero_ended}
use Rattle.write_object.specs.Object.{Plan, written_front, moved_finding}
use Rattle.write_object.specs.Steps.{heading_with}
use Rattle.write_object.proofs.Own.{own_ident}
use Rattle.write_object.proofs.ReadBack.{header_back}
use Rattle.demand_symbols.specs.of_write_plan.Plan.{new_names, own_bytes, kept_heading, new_heading, merged_plan, merged_object}
use Rattle.demand_symbols.proofs.of_write_plan.Sections.{strtab_type, names_bytes, names_front}
use Rattle.demand_symbols.proofs.of_write_plan.Headers.{merged_count_lem, merged_contents, kept_header, new_header, type_kept, kept_name, new_name_read}
use Rattle.demand_reads.proofs.Sections.{kept_type}

-- a search in which no index is at fault finds none
pub all_clear : (p : ℕ → Bool) (n : ℕ) → ((i : ℕ) → i < n → p i ≡ false) → found_below n (first p 0 n) ≡ None
unfolding found_below
all_clear p n f =
    let e : first p 0 n ≡ n = first_none p 0 n (omega arith) (λ i l h. f i h) in
    rw (e, le-ltb n n (omega arith))

-- ---- ends

-- a string ends where a zero byte follows
zero_ends : (t : List ℕ) (at i : ℕ) → at ≤ i → i < length t → get_or t i 0 ≡ 0 → has_end t at ≡ true
unfolding has_end name_end
zero_ends t at i l h z = some_yes (zero_at t) at (length t) i l h (zero_true t i z)

-- a name that a zero byte follows
ended_there : (front name r : List ℕ) → has_end (front ++ (name ++ (0 ∷ r))) (length front) ≡ true
ended_there front name r =
    let l : List ℕ = name ++ (0 ∷ r) in
    let i : ℕ = length front + (length name + 0) in
    let e : get_or (front ++ l) i 0 ≡ 0 = get_or-append-add front l (length name + 0) 0 ∙ get_or-append-add name (0 ∷ r) 0 0 in
    zero_ends (front ++ l) (length front) i (omega arith) (omega (arith, length-append front l, length-append name (0 ∷ r))) e

-- ---- names of tables

ascii_name : (r : Bool) (c : ℕ) → 1 ≤ c → c ≤ LINES → ascii (joined_name r c) ≡ true
unfolding ascii over_at first_from joined_name code_name section_codes text
ascii_name true c l u = by_code c l u (λ e. rw e) (λ e. rw e) (λ e. rw e) (λ e. rw e)
ascii_name false c l u = by_code c l u (λ e. rw e) (λ e. rw e) (λ e. rw e) (λ e. rw e)

module _ (o : ByteOrder) (C A : List ℕ) (stay : ℕ) where
  new_ascii : (i : ℕ) → i < new_count o C A stay → ascii (new_name o C A stay i) ≡ true
  unfolding new_name home_name
  new_ascii i h =
      let g = goal_lines o A (opened_by o C A stay i) (opened_lt o C A stay i h) in
      ascii_name _ _ g.0 g.1

  new_ended : (i n : ℕ) → i < n → has_end (new_names o C A stay n) (length (new_names o C A stay i)) ≡ true
  unfolding new_names zero_ended
  new_ended i n h =
      let f : ℕ → List ℕ = λ j. zero_ended (new_name o C A stay j) in
      let g = gather_split (λ j. true) f i n h refl in
      let front : List ℕ = gather (λ j. true) f i in
      let name : List ℕ = new_name o C A stay i in
      ap (λ (x : List ℕ). has_end x (length front)) (g.1 ∙ ap (λ (x : List ℕ). front ++ x) (append_assoc name (0 ∷ []) g.0))
      ∙ ended_there front name g.0

-- ---- of the merged object

module _ (o : ByteOrder) (C A : List ℕ) (P : List Place) (B path : List ℕ) (flag mode : ℕ) where
  abbrev p : Plan
  p = merged_plan o C A P B path flag mode

  abbrev O : List ℕ
  O = merged_object o C A P B path flag mode

  abbrev stay : ℕ
  stay = kept o C flag

  abbrev new : ℕ
  new = new_count o C A (kept o C flag)

  module _ (clear : moved_finding p o ≡ None) (sound : Sound o C) where
    abbrev s : ℕ
    s = (header o C).e_shstrndx

    there : s < stay
    there = strings_kept o C flag s sound.names

    names_index : (header o O).e_shstrndx ≡ (header o C).e_shstrndx
    unfolding merged_object written_front
    names_index = ap (λ (x : ElfHeader). x.e_shstrndx) (header_back p o (header o C) (own_ident o C) clear)

    -- a string table of C is one of the result
    pub strtab_kept : (i : ℕ) → is_strtab o C i ≡ true → is_strtab o O i ≡ true
    unfolding is_strtab
    strtab_kept i t =
        let h : i < stay = strings_kept o C flag i t in
        let u : i < section_count o O = rw (merged_count_lem o C A P B path flag mode clear) (omega (arith, h)) in
        let e : (section o O i).sh_type ≡ SHT_STRTAB = kept_type o C A P B path flag mode clear i h ∙ strtab_type o C i t in
        and_true _ _ (lt-ltb i (section_count o O) u) (eq-eqb (section o O i).sh_type SHT_STRTAB e)

    abbrev D : List ℕ
    D = own_bytes o C A P B path flag mode s

    abbrev N : List ℕ
    N = new_names o C A (kept o C flag) (new_count o C A (kept o C flag))

    -- C's strings come first, the names of new sections last
    strings_merged : section_strings o O ≡ D ++ N
    unfolding section_strings
    strings_merged =
        let e : (p.heading s).sh_type ≡ SHT_STRTAB = type_kept o C A P B path flag mode s there ∙ strtab_type o C s sound.names in
        ap (contents o O) names_index
        ∙ merged_contents o C A P B path flag mode clear s (omega (arith, there)) (λ q. omega (arith, e, q)) (λ q. omega (arith, e, q)) (λ q. omega (arith, e, q))
        ∙ names_bytes o C A P B path flag mode sound sound.names

    kept_ended : (i : ℕ) → i < stay → has_end (section_strings o O) (section o O i).sh_name ≡ true
    unfolding heading_with kept_heading
    kept_ended i h =
        let f = names_front o C A P B path flag mode sound sound.names in
        let x : ℕ = (section o C i).sh_name in
        let e : (section o O i).sh_name ≡ x = ap (λ (y : SectionHeader). y.sh_name) (kept_header o C A P B path flag mode clear i h) in
        let d : D ++ N ≡ section_strings o C ++ (f.0 ++ N) = ap (λ (y : List ℕ). y ++ N) f.1 ∙ append_assoc (section_strings o C) f.0 N in
        ap (has_end (section_strings o O)) e
        ∙ ap (λ (y : List ℕ). has_end y x) (strings_merged ∙ d)
        ∙ has_end_append (section_strings o C) (f.0 ++ N) x (sound.section_ends i (omega (arith, h, kept_le o C flag)))

    fresh_ended : (i : ℕ) → i < new → has_end (section_strings o O) (section o O (stay + i)).sh_name ≡ true
    unfolding heading_with new_heading
    fresh_ended i h =
        let x : ℕ = length (new_names o C A stay i) in
        let e : (section o O (stay + i)).sh_name ≡ length D + x = ap (λ (y : SectionHeader). y.sh_name) (new_header o C A P B path flag mode clear i h) in
        ap (has_end (section_strings o O)) e
        ∙ ap (λ (y : List ℕ). has_end y (length D + x)) strings_merged
        ∙ has_end_behind D N x
        ∙ new_ended o C A stay i new h

    kept_sound : (i : ℕ) → i < stay → name_sound o O i ≡ true
    unfolding name_sound
    kept_sound i h =
        and_true _ _ (kept_ended i h)
        (ap ascii (kept_name o C A P B path flag mode clear sound sound.names i h) ∙ sound.section_ascii i (omega (arith, h, kept_le o C flag)))

    fresh_sound : (i : ℕ) → i < new → name_sound o O (stay + i) ≡ true
    unfolding name_sound
    fresh_sound i h =
        and_true _ _ (fresh_ended i h)
        (ap ascii (new_name_read o C A P B path flag mode clear sound sound.names i h) ∙ new_ascii o C A stay i h)

    none_bad : (i : ℕ) → i < section_count o O → bad_name o O i ≡ false
    unfolding bad_name
    none_bad i h =
        let u : i < stay + new = rw (merged_count_lem o C A P B path flag mode clear) at h in
        by-lt i stay
        (λ l. ap not (kept_sound i l))
        (λ l.
        let q : i ≡ stay + (i - stay) = omega (arith, l) in
        ap not (ap (name_sound o O) q ∙ fresh_sound (i - stay) (omega (arith, l, u))))

    -- refusal 4 does not hold
    pub names_clear : name_fault o O ≡ None
    unfolding name_fault
    names_clear =
        expect_true _ 0 _ (ap (is_strtab o O) names_index ∙ strtab_kept s sound.names)
        ∙ all_clear (bad_name o O) (section_count o O) none_bad
