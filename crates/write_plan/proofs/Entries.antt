-- The entries of the merged object's tables: their bytes one behind the other are what the table holds, and all have an addend or none has, as the type of the table says.
-- Assumes nothing.
use Rattle.std.specs.Prelude.{None}
use Prim.Native.Nat.{ℕ, zero, suc, ◌+◌, ◌-◌, ◌/◌, ◌<◌, min}
use mathlib.Core.Path.{◌≡◌, refl, sym, ap, ◌∙◌}
use mathlib.Core.Logic.{◌⊎◌, inl, inr}
use mathlib.Core.Bool.{Bool, true, false, ◌&&◌}
use mathlib.Core.List.{List, [], ◌∷◌, ◌++◌, append-nil, append_assoc}
use native.Mathlib.Omega.{arith}
use lib.ListN.{length, get_or}
use lib.Dec.{eqb, ltb}
use borrow.Author.Tests.{ltb-true, eqb-true}
use Rattle.base_lists.specs.Ranges.{first, least, gather, select}
use Rattle.base_lists.specs.Records.{flat}
use Rattle.base_lists.proofs.Ranges.{by-test, by-lt, and_parts, gather_same, least_below}
use Rattle.base_lists.proofs.Records.{flat_append, flat_none, flat_one, flat_cons}
use Rattle.base_fields.specs.declared.ByteOrder.{ByteOrder}
use Rattle.base_scope.specs.Elf.{SHT_RELA}
use Rattle.base_scope.proofs.Refusals.{found_clear}
use Rattle.elf_records.specs.declared.relocation.RelocationEntry.{RelocationEntry}
use Rattle.elf_records.specs.declared.section.SectionHeader.{SectionHeader}
use Rattle.elf_records.specs.Relocation.{addend_of, relocation_from, present, has_addend, relocation_at, relocation_bytes}
use Rattle.elf_readers.specs.Readers.{section_count, section}
use Rattle.elf_relocations.specs.Relocations.{is_rela, entry_size, relocation_count, relocation}
use Rattle.elf_relocations.proofs.Relocations.{size_cases}
use Rattle.blocks_places.specs.Places.{Place}
use Rattle.statics_table.specs.Statics.{name_head}
use Rattle.merge_kept.specs.Kept.{kept}
use Rattle.merge_kept.proofs.Kept.{kept_le}
use Rattle.carry_entries.specs.of_carry_clash.Clash.{is_carried, joined_section, is_misjoined, clash_at, clash_finding, is_cut}
use Rattle.carry_entries.specs.Entries.{Carrying, is_kept, carried_entry, carried_bytes}
use Rattle.carry_entries.specs.Carried.{carrying_c, carrying_a}
use Rattle.carry_homes.specs.Homes.{carried_count, carried_table, has_home, home_of, joined_bytes}
use Rattle.carry_homes.proofs.Joins.{home_there, home_new, there_lt, home_kind, new_kind}
use Rattle.carry_homes.proofs.Tables.{carried_lt}
use Rattle.write_object.specs.Object.{Plan}
use Rattle.write_plan.specs.Plan.{table_bytes, new_heading, merged_plan}
use Rattle.write_plan.specs.Tables.{kept_entries, joined_entries, table_entries}
use Rattle.write_plan.proofs.Headers.{type_kept, heading_new}

-- ---- their bytes

gather_front : (g : ℕ → List ℕ) (n : ℕ) → gather (λ k. true) g (suc n) ≡ g 0 ++ gather (λ k. true) (λ k. g (suc k)) n
unfolding gather
gather_front g zero = sym (append-nil (g 0))
gather_front g (suc n) =
    ap (λ (l : List ℕ). l ++ g (suc n)) (gather_front g n)
    ∙ append_assoc (g 0) (gather (λ k. true) (λ k. g (suc k)) n) (g (suc n))

module _ {X : Type 0} (f : X → List ℕ) where
  gather_flat : (p : ℕ → Bool) (g : ℕ → List X) (n : ℕ) → gather p (λ j. flat f (g j)) n ≡ flat f (gather p g n)
  unfolding gather
  gather_flat p g zero = sym (flat_none f)
  gather_flat p g (suc n) = by-test (p n)
      (λ y. rw y (ap (λ (l : List ℕ). l ++ flat f (g n)) (gather_flat p g n) ∙ sym (flat_append f (gather p g n) (g n))))
      (λ e. rw e (gather_flat p g n))

  select_bytes : (p : ℕ → Bool) (g : ℕ → X) (n : ℕ) → gather p (λ j. f (g j)) n ≡ flat f (select p g n)
  unfolding select gather
  select_bytes p g zero = sym (flat_none f)
  select_bytes p g (suc n) = by-test (p n)
      (λ y.
      rw y
      (ap (λ (l : List ℕ). l ++ f (g n)) (select_bytes p g n)
      ∙ ap (λ (l : List ℕ). flat f (gather p (λ j. g j ∷ []) n) ++ l) (sym (flat_one f (g n)))
      ∙ sym (flat_append f (gather p (λ j. g j ∷ []) n) (g n ∷ []))))
      (λ e. rw e (select_bytes p g n))

  -- a list of entries, by index
  pub flat_gather : (d : X) (l : List X) → flat f l ≡ gather (λ k. true) (λ k. f (get_or l k d)) (length l)
  unfolding gather
  flat_gather d [] = flat_none f
  flat_gather d (x ∷ l) =
      flat_cons f x l
      ∙ ap (λ (m : List ℕ). f x ++ m) (flat_gather d l)
      ∙ sym (gather_front (λ k. f (get_or (x ∷ l) k d)) (length l))

pub kept_bytes : (o : ByteOrder) (F : List ℕ) (w : Carrying) (t : ℕ) → carried_bytes o F w t ≡ flat (relocation_bytes o) (kept_entries o F w t)
unfolding carried_bytes kept_entries
kept_bytes o F w t = select_bytes (relocation_bytes o) (is_kept o F w t) (carried_entry o F w t) (relocation_count o F t)

module _ (o : ByteOrder) (C A : List ℕ) (P : List Place) (B path : List ℕ) (flag mode : ℕ) where
  abbrev stay : ℕ
  stay = kept o C flag

  abbrev head : ℕ
  head = length (name_head mode path)

  abbrev listed : ℕ → List RelocationEntry
  listed = table_entries o C A P B path flag mode

  joined_bytes_lem : (i : ℕ) → joined_bytes o C A stay (carried_bytes o A (carrying_a o C A P B mode head)) i ≡ flat (relocation_bytes o) (joined_entries o C A P B path flag mode i)
  unfolding joined_bytes joined_entries
  joined_bytes_lem i =
      let g : ℕ → List RelocationEntry = λ j. kept_entries o A (carrying_a o C A P B mode head) (carried_table o A j) in
      let p : ℕ → Bool = λ j. eqb (home_of o C A stay j) i in
      gather_same p p (λ j. carried_bytes o A (carrying_a o C A P B mode head) (carried_table o A j)) (λ j. flat (relocation_bytes o) (g j)) (carried_count o A)
      (λ j h. refl) (λ j h t. kept_bytes o A (carrying_a o C A P B mode head) (carried_table o A j))
      ∙ gather_flat (relocation_bytes o) p g (carried_count o A)

  -- what table i holds
  pub table_entries_lem : (i : ℕ) → table_bytes o C A P B path flag mode i ≡ flat (relocation_bytes o) (listed i)
  unfolding table_bytes table_entries
  table_entries_lem i =
      let J : List RelocationEntry = joined_entries o C A P B path flag mode i in
      let K : List RelocationEntry = kept_entries o C (carrying_c o C A P B mode head) i in
      by-test (ltb i stay)
      (λ t.
      rw t
      (ap (λ (l : List ℕ). l ++ joined_bytes o C A stay (carried_bytes o A (carrying_a o C A P B mode head)) i) (kept_bytes o C (carrying_c o C A P B mode head) i)
      ∙ ap (λ (l : List ℕ). flat (relocation_bytes o) K ++ l) (joined_bytes_lem i)
      ∙ sym (flat_append (relocation_bytes o) K J)))
      (λ f. rw f (joined_bytes_lem i))

-- ---- their addends

-- an entry without meaning, of a table with addends or with none
unfoldable pub blank_entry : Bool → RelocationEntry
blank_entry b = relocation_from b []

from_addend : (b : Bool) (v : List ℕ) → has_addend (relocation_from b v) ≡ b
unfolding has_addend relocation_from addend_of present
from_addend true v = refl
from_addend false v = refl

carried_addend : (o : ByteOrder) (F : List ℕ) (w : Carrying) (t k : ℕ) → has_addend (carried_entry o F w t k) ≡ is_rela o F t
unfolding carried_entry has_addend relocation relocation_at
carried_addend o F w t k = from_addend (is_rela o F t) _

zero_over : (w : ℕ) → (w ≡ 8) ⊎ (w ≡ 12) → 0 / w ≡ 0
zero_over w (inl e) = rw e
zero_over w (inr e) = rw e

-- every entry of a list is of such a table
abbrev pub Alike : Bool → List RelocationEntry → Type 0
Alike b l = (k : ℕ) → has_addend (get_or l k (blank_entry b)) ≡ b

module _ (b : Bool) where
  alike_none : Alike b []
  unfolding blank_entry
  alike_none k = from_addend b []

  alike_one : (x : RelocationEntry) → has_addend x ≡ b → Alike b (x ∷ [])
  alike_one x e zero = e
  alike_one x e (suc k) = alike_none k

  alike_append : (l m : List RelocationEntry) → Alike b l → Alike b m → Alike b (l ++ m)
  alike_append [] m p q k = q k
  alike_append (x ∷ l) m p q zero = p zero
  alike_append (x ∷ l) m p q (suc k) = alike_append l m (λ j. p (suc j)) q k

  alike_gather : (p : ℕ → Bool) (g : ℕ → List RelocationEntry) (n : ℕ) → ((j : ℕ) → j < n → p j ≡ true → Alike b (g j)) → Alike b (gather p g n)
  unfolding gather
  alike_gather p g zero a = alike_none
  alike_gather p g (suc n) a = by-test (p n)
      (λ y. rw y (alike_append (gather p g n) (g n) (alike_gather p g n (λ j h. a j (omega arith))) (a n (omega arith) y)))
      (λ f. rw f (alike_gather p g n (λ j h. a j (omega arith))))

  alike_kept : (o : ByteOrder) (F : List ℕ) (w : Carrying) (t : ℕ) → is_rela o F t ≡ b → Alike b (kept_entries o F w t)
  unfolding kept_entries select
  alike_kept o F w t e =
      alike_gather (is_kept o F w t) (λ k. carried_entry o F w t k ∷ []) (relocation_count o F t) (λ k h y. alike_one (carried_entry o F w t k) (carried_addend o F w t k ∙ e))

  -- a table without bytes brings none
  alike_empty : (o : ByteOrder) (F : List ℕ) (w : Carrying) (t : ℕ) → (section o F t).sh_size ≡ 0 → Alike b (kept_entries o F w t)
  unfolding kept_entries select relocation_count gather
  alike_empty o F w t e = rw (e, zero_over (entry_size o F t) (size_cases o F t)) alike_none

-- where refusal 10 does not hold, no table is misjoined
pub none_misjoined : (o : ByteOrder) (C A : List ℕ) (flag : ℕ) → clash_finding o C A flag ≡ None → (t : ℕ) → t < section_count o A → is_misjoined o C A (kept o C flag) t ≡ false
unfolding clash_finding clash_at is_misjoined
none_misjoined o C A flag clear t h = by-test (is_misjoined o C A (kept o C flag) t)
    (λ y.
    let stay : ℕ = kept o C flag in
    let n : ℕ = section_count o C in
    let low = least_below (joined_section o C A) (is_misjoined o C A stay) n (section_count o A) t h y in
    let r = (and_parts (is_carried o A t && ltb 0 (section o A t).sh_size) _ y).1 in
    let l = ltb-true (joined_section o C A t) stay (and_parts (ltb (joined_section o C A t) stay) _ r).0 in
    let m = found_clear n (min (first (is_cut o C stay) 0 n) (least (joined_section o C A) (is_misjoined o C A stay) n (section_count o A))) clear in
    absurd (omega (arith, low, l, m, kept_le o C flag)))
    (λ f. f)

module _ (o : ByteOrder) (C A : List ℕ) (P : List Place) (B path : List ℕ) (flag mode : ℕ) where
  abbrev p : Plan
  p = merged_plan o C A P B path flag mode

  module _ (unclashed : clash_finding o C A flag ≡ None) (j : ℕ) (h : j < carried_count o A) (some : 0 < (section o A (carried_table o A j)).sh_size) where
    abbrev home : ℕ
    home = home_of o C A (kept o C flag) j

    misjoined_not : is_misjoined o C A (kept o C flag) (carried_table o A j) ≡ false
    misjoined_not = none_misjoined o C A flag unclashed (carried_table o A j) (carried_lt o A j h)

    -- a table with entries joins one of its type
    pub home_type : (p.heading home).sh_type ≡ (section o A (carried_table o A j)).sh_type
    unfolding new_heading
    home_type = by-test (has_home o C A (kept o C flag) j)
        (λ t.
        let l : home < kept o C flag = omega (arith, home_there o C A (kept o C flag) j t, there_lt o C A (kept o C flag) j t) in
        type_kept o C A P B path flag mode home l ∙ (home_kind o C A (kept o C flag) j h some misjoined_not t).0)
        (λ f.
        let e : home ≡ kept o C flag + (home - kept o C flag) = omega (arith, home_new o C A (kept o C flag) j f) in
        ap (λ (x : ℕ). (p.heading x).sh_type) e
        ∙ ap (λ (x : SectionHeader). x.sh_type) (heading_new o C A P B path flag mode (home - kept o C flag))
        ∙ (new_kind o C A (kept o C flag) j h f).0)

  -- so the entries of a table are as its type says
  module _ (unclashed : clash_finding o C A flag ≡ None) (i : ℕ) where
    abbrev rela : Bool
    rela = eqb (p.heading i).sh_type SHT_RELA

    own_alike : ltb i (kept o C flag) ≡ true → Alike rela (kept_entries o C (carrying_c o C A P B mode (length (name_head mode path))) i)
    unfolding is_rela
    own_alike t =
        alike_kept rela o C (carrying_c o C A P B mode (length (name_head mode path))) i
        (ap (λ (x : ℕ). eqb x SHT_RELA) (sym (type_kept o C A P B path flag mode i (ltb-true i (kept o C flag) t))))

    joined_alike : Alike rela (joined_entries o C A P B path flag mode i)
    unfolding joined_entries is_rela
    joined_alike =
        let w : Carrying = carrying_a o C A P B mode (length (name_head mode path)) in
        alike_gather rela (λ j. eqb (home_of o C A (kept o C flag) j) i) (λ j. kept_entries o A w (carried_table o A j)) (carried_count o A)
        (λ j h y.
        let t : ℕ = carried_table o A j in
        let e : home_of o C A (kept o C flag) j ≡ i = eqb-true (home_of o C A (kept o C flag) j) i y in
        by-lt 0 (section o A t).sh_size
        (λ s. alike_kept rela o A w t (ap (λ (x : ℕ). eqb x SHT_RELA) (sym (home_type unclashed j h s) ∙ ap (λ (x : ℕ). (p.heading x).sh_type) e)))
        (λ n. alike_empty rela o A w t (omega (arith, n))))

    pub table_alike : Alike rela (table_entries o C A P B path flag mode i)
    unfolding table_entries
    table_alike = by-test (ltb i (kept o C flag))
        (λ t.
        let K : List RelocationEntry = kept_entries o C (carrying_c o C A P B mode (length (name_head mode path))) i in
        rw t (alike_append rela K (joined_entries o C A P B path flag mode i) (own_alike t) joined_alike))
        (λ f. rw f joined_alike)
