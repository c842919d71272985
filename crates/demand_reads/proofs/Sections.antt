-- The sections of the merged object: their bytes lie inside it, each has its name, and each of A's carried tables joins the first of its name. Assumes nothing.
use Rattle.std.specs.Prelude.{None}
use Prim.Native.Nat.{ℕ, ◌+◌, ◌-◌, ◌≤◌, ◌<◌}
use mathlib.Core.Path.{◌≡◌, sym, ap, ◌∙◌}
use mathlib.Core.Logic.{◌≢◌}
use mathlib.Core.Bool.{true, false}
use mathlib.Core.List.{List}
use native.Mathlib.Omega.{arith}
use lib.ListN.{length}
use Rattle.base_lists.specs.Strings.{same}
use Rattle.base_lists.proofs.Ranges.{by-test, by-lt, first_is, first_unique}
use Rattle.base_lists.proofs.Strings.{same_eq, same_true}
use Rattle.base_fields.specs.declared.ByteOrder.{ByteOrder}
use Rattle.base_scope.specs.Elf.{SHT_NULL, SHT_NOBITS}
use Rattle.elf_records.specs.declared.section.SectionHeader.{SectionHeader}
use Rattle.elf_readers.specs.Readers.{header, section_count, section, section_name, has_name, section_named}
use Rattle.elf_check.specs.Sound.{Sound}
use Rattle.blocks_places.specs.Places.{Place}
use Rattle.merge_kept.specs.Kept.{kept}
use Rattle.merge_kept.proofs.Kept.{kept_le}
use Rattle.carry_homes.specs.Homes.{carried_count, home_name, has_home, new_count, new_name, home_of}
use Rattle.carry_homes.proofs.Joins.{joined_named, home_there, home_new, there_lt, home_lt, new_name_lem, new_apart, home_name_lem}
use Rattle.write_object.specs.Object.{Plan, moved_finding}
use Rattle.write_object.specs.Steps.{heading_with}
use Rattle.write_object.proofs.Own.{own_ident}
use Rattle.write_object.proofs.ReadBack.{type_back, contents_inside}
use Rattle.demand_symbols.specs.of_write_plan.Plan.{kept_heading, merged_plan, merged_object}
use Rattle.demand_symbols.proofs.of_write_plan.Headers.{many_is, placed_typed, merged_count_lem, kept_header, kept_name, new_name_read}

-- ---- the section of a name

module _ (o : ByteOrder) (F name : List ℕ) where
  named_there : section_named o F name < section_count o F → section_name o F (section_named o F name) ≡ name
  unfolding section_named has_name
  named_there h = same_true _ _ ((first_is (has_name o F name) 0 (section_count o F) (omega arith)).here h)

  named_before : (i : ℕ) → i < section_named o F name → same (section_name o F i) name ≡ false
  unfolding section_named has_name
  named_before i h = (first_is (has_name o F name) 0 (section_count o F) (omega arith)).below i (omega arith) h

  -- the first section that has the name is the section of the name
  named_is : (k : ℕ) → k < section_count o F → section_name o F k ≡ name → ((i : ℕ) → i < k → same (section_name o F i) name ≡ false) → section_named o F name ≡ k
  unfolding section_named has_name
  named_is k h e before =
      first_unique (has_name o F name) 0 (section_count o F) _ k (first_is (has_name o F name) 0 (section_count o F) (omega arith))
      (record { low = omega arith; high = omega (arith, h); below = λ i l u. before i u; here = λ u. same_eq _ _ e })

module _ (o : ByteOrder) (C A : List ℕ) (P : List Place) (B path : List ℕ) (flag mode : ℕ) where
  abbrev p : Plan
  p = merged_plan o C A P B path flag mode

  abbrev O : List ℕ
  O = merged_object o C A P B path flag mode

  abbrev stay : ℕ
  stay = kept o C flag

  abbrev new : ℕ
  new = new_count o C A (kept o C flag)

  module _ (clear : moved_finding p o ≡ None) where
    -- ---- types and places

    -- a section that stays has C's type
    pub kept_type : (i : ℕ) → i < stay → (section o O i).sh_type ≡ (section o C i).sh_type
    unfolding heading_with kept_heading
    kept_type i h = ap (λ (x : SectionHeader). x.sh_type) (kept_header o C A P B path flag mode clear i h)

    -- the bytes of every section that has some lie inside
    pub held_inside : (i : ℕ) → i < section_count o O → (section o O i).sh_type ≢ SHT_NULL → (section o O i).sh_type ≢ SHT_NOBITS
        → (section o O i).sh_offset + (section o O i).sh_size ≤ length O
    unfolding merged_object
    held_inside i h a b =
        let below : i < p.many = rw (many_is o C A P B path flag mode) (rw (merged_count_lem o C A P B path flag mode clear) at h) in
        let e = type_back p o (header o C) (own_ident o C) clear i below in
        contents_inside p o (header o C) (own_ident o C) clear i below (placed_typed o C A P B path flag mode i (λ q. a (e ∙ q)) (λ q. b (e ∙ q)))

    -- ---- what carried tables join

    module _ (sound : Sound o C) (j : ℕ) (h : j < carried_count o A) where
      abbrev home : ℕ
      home = home_of o C A (kept o C flag) j

      abbrev N : List ℕ
      N = home_name o A j

      -- a section of C that stays
      module _ (t : has_home o C A (kept o C flag) j ≡ true) where
        there : home ≡ section_named o C N
        there = home_there o C A stay j t ∙ joined_named o C A j

        stays : home < stay
        stays = omega (arith, home_there o C A stay j t, there_lt o C A stay j t)

        there_name : section_name o O home ≡ N
        there_name =
            let u : section_named o C N < section_count o C = omega (arith, there, stays, kept_le o C flag) in
            kept_name o C A P B path flag mode clear sound sound.names home stays
            ∙ ap (section_name o C) there
            ∙ named_there o C N u

        there_before : (i : ℕ) → i < home → same (section_name o O i) N ≡ false
        there_before i l =
            ap (λ (x : List ℕ). same x N) (kept_name o C A P B path flag mode clear sound sound.names i (omega (arith, l, stays)))
            ∙ named_before o C N i (omega (arith, there, l))

      -- or a new one
      module _ (f : has_home o C A (kept o C flag) j ≡ false) where
        abbrev k : ℕ
        k = home_of o C A (kept o C flag) j - kept o C flag

        behind : home ≡ stay + k
        behind = omega (arith, home_new o C A stay j f)

        fresh : k < new
        fresh = omega (arith, behind, home_lt o C A stay j h)

        new_name_of : new_name o C A stay k ≡ N
        new_name_of = home_name_lem o C A stay j h f

        fresh_name : section_name o O home ≡ N
        fresh_name = ap (section_name o O) behind ∙ new_name_read o C A P B path flag mode clear sound sound.names k fresh ∙ new_name_of

        fresh_before : (i : ℕ) → i < home → same (section_name o O i) N ≡ false
        fresh_before i l = by-lt i stay
            (λ s.
            ap (λ (x : List ℕ). same x N) (kept_name o C A P B path flag mode clear sound sound.names i s)
            ∙ ap (same (section_name o C i)) (sym new_name_of)
            ∙ new_name_lem o C A stay k i fresh s (kept_le o C flag))
            (λ s.
            let q : i ≡ stay + (i - stay) = omega (arith, s) in
            let m : i - stay < new = omega (arith, s, l, behind, fresh) in
            ap (λ (x : List ℕ). same x N) (ap (section_name o O) q ∙ new_name_read o C A P B path flag mode clear sound sound.names (i - stay) m)
            ∙ ap (same (new_name o C A stay (i - stay))) (sym new_name_of)
            ∙ new_apart o C A stay (i - stay) k m fresh (λ e. omega (arith, e, s, l, behind)))

      -- either is the first of its name
      pub home_named : section_named o O (home_name o A j) ≡ home_of o C A (kept o C flag) j
      home_named =
          let u : home < section_count o O = rw (merged_count_lem o C A P B path flag mode clear) (home_lt o C A stay j h) in
          by-test (has_home o C A stay j)
          (λ t. named_is o O N home u (there_name t) (there_before t))
          (λ f. named_is o O N home u (fresh_name f) (fresh_before f))
