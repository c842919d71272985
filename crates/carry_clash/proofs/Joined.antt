-- The tables of A that join one of C, as the code tests them. Assumes nothing.
use Rattle.std.specs.Prelude.{Option}
use Prim.Native.Nat.{ℕ, ◌+◌, ◌≤◌, ◌<◌, min}
use mathlib.Core.Path.{◌≡◌, sym, ap, ◌∙◌}
use mathlib.Core.Bool.{Bool, true, false, not}
use mathlib.Core.List.{List}
use native.Mathlib.Nat.{min-eq_left, min-eq_right}
use native.Mathlib.Omega.{arith}
use lib.ListN.{length}
use lib.Dec.{eqb, ltb}
use borrow.Author.Tests.{lt-ltb, le-ltb, ltb-true, eq-eqb, ne_eqb, eqb-true, eqb-false}
use Rattle.base_lists.specs.Ranges.{first, least}
use Rattle.base_lists.proofs.Ranges.{by-test, and_parts, least_next, least_high}
use Rattle.base_fields.specs.declared.ByteOrder.{ByteOrder}
use Rattle.base_scope.specs.Codes.{TEXT, DATA, RODATA, BSS, LATE_RODATA, LINES, CODES, target_code}
use Rattle.base_scope.specs.Refusals.{found_below}
use Rattle.elf_records.specs.declared.section.SectionHeader.{SectionHeader}
use Rattle.elf_readers.specs.Readers.{section_count, section, section_named, coded_contents}
use Rattle.elf_relocations.specs.Relocations.{is_rela, is_table}
use Rattle.symbols_taken.specs.of_elf_check.declared.View.{View}
use Rattle.symbols_taken.specs.of_elf_check.View.{view_of, section_in}
use Rattle.symbols_taken.proofs.of_elf_check.Views.{view_section}
use Rattle.merge_kept.specs.Kept.{kept}
use Rattle.symbols_taken.specs.Used.{code_of, is_source, is_source_table}
use Rattle.symbols_taken.specs.Code.{code_in}
use Rattle.symbols_taken.proofs.Sections.{code_is}
use Rattle.carry_clash.specs.Clash.{is_cut, joined_name, name_among, carried_code, is_carried, is_other_table, joined_section, is_misjoined, clash_of, clash_at, clash_finding}

-- ---- is it carried

module _ (o : ByteOrder) (A : List ℕ) (t : ℕ) (s : Bool) (e : s ≡ is_source_table o A t) where
  pub carried_not : s ≡ false → false ≡ is_carried o A t
  unfolding is_carried
  carried_not f = rw (sym e ∙ f)

  pub carried_by : s ≡ true → (h : SectionHeader) → h ≡ section o A t → (v : View) → v ≡ view_of o A → (c : ℕ) → c ≡ code_in v h.sh_info → (bytes : List ℕ)
      → bytes ≡ coded_contents o A c → ltb 0 (length bytes) ≡ is_carried o A t
  unfolding is_carried carried_code
  carried_by u h is v r c q bytes p = rw (sym e ∙ u, ← is, ← code_is o A v r h.sh_info, ← q, ← p)

-- ---- the other table

module _ (o : ByteOrder) (C : List ℕ) (kind c j : ℕ) (h : SectionHeader) (is : h ≡ section o C j) where
  pub other_kind : (h.sh_type ≡ kind → ⊥) → true ≡ is_other_table o C kind c j
  unfolding is_other_table
  other_kind n = rw (← is, ne_eqb h.sh_type kind n)

  pub other_target : h.sh_type ≡ kind → (v : View) → v ≡ view_of o C → 1 ≤ c → c ≤ CODES → not (eqb h.sh_info (section_in v c)) ≡ is_other_table o C kind c j
  unfolding is_other_table
  other_target k v r l u = rw (← is, eq-eqb h.sh_type kind k, view_section o C v r c l u)

-- ---- the code of a target

pub target_lines : (c : ℕ) → 1 ≤ c → c ≤ LATE_RODATA → (1 ≤ target_code c) × (target_code c ≤ LINES)
unfolding target_code
target_lines c l h = by-test (eqb c LATE_RODATA)
    (λ t. rw t (omega arith, omega arith))
    (λ f. let n = eqb-false c LATE_RODATA f in rw f (l, omega (arith, n, h)))

carried_source : (o : ByteOrder) (A : List ℕ) (t : ℕ) → is_carried o A t ≡ true → carried_code o A t ≤ LATE_RODATA
unfolding is_carried is_source_table is_source carried_code
carried_source o A t e =
    let a = and_parts (is_source_table o A t) (ltb 0 (length (coded_contents o A (carried_code o A t)))) e in
    let b = and_parts (is_table o A t) (is_source o A (section o A t).sh_info) a.0 in
    let c = ltb-true (code_of o A (section o A t).sh_info) (LATE_RODATA + 1) b.1 in
    omega (arith, c)

-- ---- the clash of one table

module _ (o : ByteOrder) (C A : List ℕ) (stay t : ℕ) where
  clash_not : is_misjoined o C A stay t ≡ false → section_count o C ≡ clash_of o C A stay t
  unfolding clash_of
  clash_not f = rw f

  -- it is not carried
  misjoined_left : is_carried o A t ≡ false → is_misjoined o C A stay t ≡ false
  unfolding is_misjoined
  misjoined_left f = rw f

  pub clash_left : (a : Bool) → a ≡ is_carried o A t → a ≡ false → section_count o C ≡ clash_of o C A stay t
  clash_left a e f = clash_not (misjoined_left (sym e ∙ f))

  module _ (a : Bool) (carried : a ≡ is_carried o A t) (yes : a ≡ true) (h : SectionHeader) (is : h ≡ section o A t) where
    -- it has no entries
    misjoined_empty : h.sh_size ≤ 0 → is_misjoined o C A stay t ≡ false
    unfolding is_misjoined
    misjoined_empty l = rw (sym carried ∙ yes, ← is, le-ltb 0 h.sh_size l)

    pub clash_empty : h.sh_size ≤ 0 → section_count o C ≡ clash_of o C A stay t
    clash_empty l = clash_not (misjoined_empty l)

    module _ (some : 0 < h.sh_size) (v : View) (r : v ≡ view_of o A) (d : ℕ) (read : d ≡ code_in v h.sh_info) (c : ℕ) (goal : c ≡ target_code d) where
      code_same : d ≡ carried_code o A t
      unfolding carried_code
      code_same = read ∙ code_is o A v r h.sh_info ∙ ap (λ (x : SectionHeader). code_of o A x.sh_info) is

      goal_same : c ≡ target_code (carried_code o A t)
      goal_same = goal ∙ ap target_code code_same

      pub goal_low : 1 ≤ d → (1 ≤ c) × (c ≤ LINES)
      goal_low l =
          let k = carried_source o A t (sym carried ∙ yes) in
          let low = target_lines d l (rw code_same k) in
          rw goal low

      module _ (rela : Bool) (kind : rela ≡ is_rela o A t) (j : ℕ) (found : j ≡ section_named o C (joined_name rela c)) where
        joined_is : j ≡ joined_section o C A t
        unfolding joined_section
        joined_is = found ∙ ap (λ (x : Bool). section_named o C (joined_name x c)) kind ∙ ap (λ (x : ℕ). section_named o C (joined_name (is_rela o A t) x)) goal_same

        misjoined_past : stay ≤ j → is_misjoined o C A stay t ≡ false
        unfolding is_misjoined
        misjoined_past l = rw (sym carried ∙ yes, ← is, lt-ltb 0 h.sh_size some, ← joined_is, le-ltb j stay l)

        pub clash_past : stay ≤ j → section_count o C ≡ clash_of o C A stay t
        clash_past l = clash_not (misjoined_past l)

        module _ (l : j < stay) (b : Bool) (other : b ≡ is_other_table o C h.sh_type c j) where
          misjoined_by : is_misjoined o C A stay t ≡ b
          unfolding is_misjoined
          misjoined_by = rw (sym carried ∙ yes, ← is, lt-ltb 0 h.sh_size some, ← joined_is, lt-ltb j stay l, ← goal_same) (sym other)

          pub clash_same : b ≡ false → section_count o C ≡ clash_of o C A stay t
          clash_same f = clash_not (misjoined_by ∙ f)

          pub clash_other : b ≡ true → j ≡ clash_of o C A stay t
          unfolding clash_of
          clash_other u = rw (misjoined_by ∙ u) joined_is

-- ---- the lowest of them

module _ (o : ByteOrder) (C A : List ℕ) (stay : ℕ) where
  module _ (k best : ℕ) (so_far : best ≡ least (joined_section o C A) (is_misjoined o C A stay) (section_count o C) k) (x : ℕ) (now-at : x ≡ clash_of o C A stay k) (y : ℕ) (low : y ≡ min x best) where
    pub least_step : y ≡ least (joined_section o C A) (is_misjoined o C A stay) (section_count o C) (k + 1)
    unfolding clash_of
    least_step = by-test (is_misjoined o C A stay k)
        (λ u. low ∙ ap (λ (z : ℕ). min z best) (now-at ∙ rw u) ∙ ap (min (joined_section o C A k)) so_far ∙ sym (least_next (joined_section o C A) (is_misjoined o C A stay) (section_count o C) k ∙ rw u))
        (λ f.
        let q : x ≡ section_count o C = now-at ∙ rw f in
        let m : best ≤ x = omega (arith, q, so_far, least_high (joined_section o C A) (is_misjoined o C A stay) (section_count o C) k) in
        low ∙ min-eq_right m ∙ so_far ∙ sym (least_next (joined_section o C A) (is_misjoined o C A stay) (section_count o C) k ∙ rw f))

-- the lower of two
pub lower_first : (a b : ℕ) → a < b → a ≡ min a b
lower_first a b h = let l : a ≤ b = omega (arith, h) in sym (min-eq_left l)

pub lower_second : (a b : ℕ) → b ≤ a → b ≡ min a b
lower_second a b h = sym (min-eq_right h)

-- ---- names

pub names_of : (rela : Bool) (c : ℕ) → 1 ≤ c → c ≤ LINES
    → name_among c (joined_name rela TEXT) (joined_name rela DATA) (joined_name rela RODATA) (joined_name rela BSS) ≡ joined_name rela c
unfolding name_among
names_of rela c l u = by-test (eqb c TEXT)
    (λ t. rw t (ap (joined_name rela) (sym (eqb-true c TEXT t))))
    (λ f. by-test (eqb c DATA)
    (λ t. rw (f, t) (ap (joined_name rela) (sym (eqb-true c DATA t))))
    (λ g. by-test (eqb c RODATA)
    (λ t. rw (f, g, t) (ap (joined_name rela) (sym (eqb-true c RODATA t))))
    (λ h.
    let x = eqb-false c TEXT f in
    let y = eqb-false c DATA g in
    let z = eqb-false c RODATA h in
    let e : BSS ≡ c = omega (arith, x, y, z, l, u) in
    rw (f, g, h) (ap (joined_name rela) e))))

module _ (o : ByteOrder) (C : List ℕ) (c : ℕ) (a b d e : List ℕ) where
  pub among_text : c ≡ TEXT → section_named o C a ≡ section_named o C (name_among c a b d e)
  unfolding name_among
  among_text x = rw (eq-eqb c TEXT x)

  module _ (x : c ≡ TEXT → ⊥) where
    pub among_data : c ≡ DATA → section_named o C b ≡ section_named o C (name_among c a b d e)
    unfolding name_among
    among_data y = rw (ne_eqb c TEXT x, eq-eqb c DATA y)

    module _ (y : c ≡ DATA → ⊥) where
      pub among_rodata : c ≡ RODATA → section_named o C d ≡ section_named o C (name_among c a b d e)
      unfolding name_among
      among_rodata z = rw (ne_eqb c TEXT x, ne_eqb c DATA y, eq-eqb c RODATA z)

      pub among_bss : (c ≡ RODATA → ⊥) → section_named o C e ≡ section_named o C (name_among c a b d e)
      unfolding name_among
      among_bss z = rw (ne_eqb c TEXT x, ne_eqb c DATA y, ne_eqb c RODATA z)

-- ---- together

pub clash_found : (o : ByteOrder) (C A : List ℕ) (flag n stay cut clash low : ℕ) (r : Option ℕ) → r ≡ found_below n low → n ≡ section_count o C → stay ≡ kept o C flag
    → cut ≡ first (is_cut o C stay) 0 (section_count o C) → clash ≡ least (joined_section o C A) (is_misjoined o C A stay) (section_count o C) (section_count o A) → low ≡ min cut clash
    → r ≡ clash_finding o C A flag
unfolding clash_finding clash_at
clash_found o C A flag n stay cut clash low r e m s a b l =
    e
    ∙ ap (λ (x : ℕ). found_below x low) m
    ∙ ap (found_below (section_count o C)) (l ∙ ap (λ (x : ℕ). min x clash) a ∙ ap (min (first (is_cut o C stay) 0 (section_count o C))) b)
    ∙ ap (λ (x : ℕ). found_below (section_count o C) (min (first (is_cut o C x) 0 (section_count o C)) (least (joined_section o C A) (is_misjoined o C A x) (section_count o C) (section_count o A)))) s
