-- The homes of the carried tables: tables of one name have one home, and each new section is opened by the first table of its name. Assumes nothing.
use Prim.Native.Nat.{ℕ, ◌+◌, ◌-◌, ◌≤◌, ◌<◌}
use mathlib.Core.Path.{◌≡◌, refl, sym, ap, ◌∙◌}
use mathlib.Core.Bool.{Bool, true, false, not}
use mathlib.Core.List.{List, []}
use native.Mathlib.Omega.{arith}
use lib.ListN.{length}
use lib.Dec.{eqb, ltb}
use borrow.Author.Tests.{ltb-true, ltb-false, lt-ltb, eqb-true, eq-eqb, ne_eqb, not-true, not-false}
use Rattle.base_lists.specs.Ranges.{count, IsFirst}
use Rattle.base_lists.specs.Strings.{same}
use Rattle.base_lists.proofs.Ranges.{by-test, by-lt, both, and_parts, or_parts, first_is, first_unique, count_mono, count_lt, count_le, count_hit, gather_none, select_at}
use Rattle.base_lists.proofs.Strings.{same_refl, same_true, same_eq, same_sym}
use Rattle.base_fields.specs.declared.ByteOrder.{ByteOrder}
use Rattle.base_scope.specs.Codes.{LINES, target_code}
use Rattle.base_groups.specs.Holders.{holder, is_holder, Equivalence}
use Rattle.base_groups.proofs.Holders.{holder_le, holder_alike, holder_holds, holder_once}
use Rattle.elf_readers.specs.Readers.{section_count, section, section_name, has_name, section_named, coded_section, coded_contents}
use Rattle.elf_relocations.specs.Relocations.{is_rela, is_table}
use Rattle.carry_clash.specs.of_symbols_taken.Used.{is_source_table}
use Rattle.carry_clash.proofs.of_symbols_taken.Sections.{table_kind}
use Rattle.carry_clash.specs.Clash.{carried_code, is_carried, is_other_table, joined_section, is_misjoined}
use Rattle.carry_clash.proofs.Joined.{target_lines}
use Rattle.carry_homes.specs.declared.TableName.{TableName}
use Rattle.carry_homes.specs.Homes.{carried_count, carried_table, home_name, same_home, has_home, opens_home, new_count, new_tables, opened_by, new_name, home_of, joined_bytes}
use Rattle.carry_homes.specs.Code.{home_in, opened_in, HomesListed}
use Rattle.carry_homes.proofs.Tables.{code_first, code_last, carried_is}
use Rattle.carry_homes.proofs.Names.{parts_equal}

-- names that are the same are so both ways, and on
pub home_equivalence : (o : ByteOrder) (A : List ℕ) → Equivalence (same_home o A)
unfolding same_home
home_equivalence o A = record {
  itself = λ p. same_refl (home_name o A p);
  back = λ p q e. same_sym (home_name o A q) (home_name o A p) ∙ e;
  on = λ p q r e f. same_eq _ _ (same_true _ _ e ∙ same_true _ _ f);
}

same_home_name : (o : ByteOrder) (A : List ℕ) (i j : ℕ) → same_home o A i j ≡ true → home_name o A i ≡ home_name o A j
unfolding same_home
same_home_name o A i j e = same_true _ _ e

pub joined_named : (o : ByteOrder) (C A : List ℕ) (j : ℕ) → joined_section o C A (carried_table o A j) ≡ section_named o C (home_name o A j)
unfolding joined_section home_name
joined_named o C A j = refl

-- ---- tables of one name

table_type : (o : ByteOrder) (A : List ℕ) (s t : ℕ) → is_table o A s ≡ true → is_table o A t ≡ true → is_rela o A s ≡ is_rela o A t
    → (section o A s).sh_type ≡ (section o A t).sh_type
unfolding is_table is_rela
table_type o A s t a b e = by-test (is_rela o A s)
    (λ y. eqb-true _ _ y ∙ sym (eqb-true _ _ (sym e ∙ y)))
    (λ f. let g : is_rela o A t ≡ false = sym e ∙ f in eqb-true _ _ (rw f at a) ∙ sym (eqb-true _ _ (rw g at b)))

carried_table_lem : (o : ByteOrder) (A : List ℕ) (t : ℕ) → is_carried o A t ≡ true → is_table o A t ≡ true
unfolding is_carried
carried_table_lem o A t e = table_kind o A t (and_parts (is_source_table o A t) (ltb 0 (length (coded_contents o A (carried_code o A t)))) e).0

module _ (o : ByteOrder) (A : List ℕ) where
  -- C's section of its target is one of the four
  pub goal_lines : (j : ℕ) → j < carried_count o A → (1 ≤ target_code (carried_code o A (carried_table o A j))) × (target_code (carried_code o A (carried_table o A j)) ≤ LINES)
  goal_lines j h = target_lines (carried_code o A (carried_table o A j)) (code_first o A _) (code_last o A _ (carried_is o A j h))

  -- a name tells the type and the target
  pub name_kind : (i j : ℕ) → i < carried_count o A → j < carried_count o A → home_name o A i ≡ home_name o A j
      → ((section o A (carried_table o A i)).sh_type ≡ (section o A (carried_table o A j)).sh_type)
      × (target_code (carried_code o A (carried_table o A i)) ≡ target_code (carried_code o A (carried_table o A j)))
  unfolding home_name
  name_kind i j h l e =
      let a : TableName = record { rela = is_rela o A (carried_table o A i); code = target_code (carried_code o A (carried_table o A i)) } in
      let b : TableName = record { rela = is_rela o A (carried_table o A j); code = target_code (carried_code o A (carried_table o A j)) } in
      let p = parts_equal a b (goal_lines i h).0 (goal_lines i h).1 (goal_lines j l).0 (goal_lines j l).1 e in
      (table_type o A _ _ (carried_table_lem o A _ (carried_is o A i h)) (carried_table_lem o A _ (carried_is o A j l)) p.0, p.1)

module _ (o : ByteOrder) (C A : List ℕ) (stay : ℕ) where
  abbrev n : ℕ
  n = carried_count o A

  abbrev opens : ℕ → Bool
  opens = opens_home o C A stay

  abbrev holds : ℕ → ℕ
  holds = holder (same_home o A) (carried_count o A)

  -- ---- by cases

  pub home_there : (j : ℕ) → has_home o C A stay j ≡ true → home_of o C A stay j ≡ joined_section o C A (carried_table o A j)
  unfolding home_of
  home_there j t = rw t

  pub home_new : (j : ℕ) → has_home o C A stay j ≡ false → home_of o C A stay j ≡ stay + count opens (holds j)
  unfolding home_of
  home_new j f = rw f

  pub there_lt : (j : ℕ) → has_home o C A stay j ≡ true → joined_section o C A (carried_table o A j) < stay
  unfolding has_home
  there_lt j t = ltb-true _ _ t

  has_same : (i j : ℕ) → same_home o A i j ≡ true → has_home o C A stay i ≡ has_home o C A stay j
  unfolding has_home
  has_same i j e = ap (λ (x : ℕ). ltb x stay) (joined_named o C A i ∙ ap (section_named o C) (same_home_name o A i j e) ∙ sym (joined_named o C A j))

  pub opens_parts : (j : ℕ) → opens j ≡ true → (has_home o C A stay j ≡ false) × (holds j ≡ j)
  unfolding opens_home is_holder
  opens_parts j t =
      let p = and_parts (not (has_home o C A stay j)) (is_holder (same_home o A) (carried_count o A) j) t in
      (not-true (has_home o C A stay j) p.0, eqb-true (holds j) j p.1)

  parts_open : (j : ℕ) → has_home o C A stay j ≡ false → is_holder (same_home o A) (carried_count o A) j ≡ true → opens j ≡ true
  unfolding opens_home
  parts_open j f e = rw (f, e)

  held_opens : (j : ℕ) → has_home o C A stay j ≡ false → holds j ≡ j → opens j ≡ true
  unfolding is_holder
  held_opens j f e = parts_open j f (eq-eqb (holds j) j e)

  -- the first table of a name that no section has opens one
  pub holder_opens : (j : ℕ) → j < n → has_home o C A stay j ≡ false → opens (holds j) ≡ true
  holder_opens j h f =
      parts_open (holds j)
      (sym (has_same j (holds j) (holder_alike (same_home o A) n (home_equivalence o A) j h)) ∙ f)
      (holder_holds (same_home o A) n (home_equivalence o A) j h)

  pub holds_le : (j : ℕ) → j < n → holds j ≤ j
  holds_le j h = holder_le (same_home o A) n (home_equivalence o A) j h

  pub home_opened : (j : ℕ) → opens j ≡ true → home_of o C A stay j ≡ stay + count opens j
  home_opened j t =
      let p = opens_parts j t in
      home_new j p.0 ∙ ap (λ (x : ℕ). stay + count opens x) p.1

  -- a table that opens none has a home that is there
  pub home_lower : (j : ℕ) → j < n → opens j ≡ false → home_of o C A stay j < stay + count opens j
  home_lower j h f = by-test (has_home o C A stay j)
      (λ t. rw (home_there j t) (omega (arith, there_lt j t)))
      (λ e. by-lt (holds j) j
      (λ l. rw (home_new j e) (omega (arith, count_lt opens (holds j) j l (holder_opens j h e))))
      (λ l. let q : holds j ≡ j = omega (arith, holds_le j h) in both (held_opens j e q) f))

  -- ---- where homes are

  pub new_few : new_count o C A stay ≤ n
  unfolding new_count
  new_few = count_le opens n

  pub home_lt : (j : ℕ) → j < n → home_of o C A stay j < stay + new_count o C A stay
  unfolding new_count
  home_lt j h = by-test (opens j)
      (λ t. rw (home_opened j t) (omega (arith, count_lt opens j n h t)))
      (λ f. omega (arith, home_lower j h f, count_mono opens j n (omega arith)))

  -- where refusal 10 does not hold, a table with entries joins one of its type, for C's section of its code
  module _ (j : ℕ) (h : j < n) where
    abbrev table : ℕ
    table = carried_table o A j

    abbrev goal : ℕ
    goal = target_code (carried_code o A table)

    not_other_lem : 0 < (section o A table).sh_size → is_misjoined o C A stay table ≡ false → has_home o C A stay j ≡ true
        → is_other_table o C (section o A table).sh_type goal (joined_section o C A table) ≡ false
    unfolding is_misjoined has_home
    not_other_lem s f t = rw (carried_is o A j h, lt-ltb 0 (section o A table).sh_size s, t) at f

    pub home_kind : 0 < (section o A table).sh_size → is_misjoined o C A stay table ≡ false → has_home o C A stay j ≡ true
        → ((section o C (home_of o C A stay j)).sh_type ≡ (section o A table).sh_type) × ((section o C (home_of o C A stay j)).sh_info ≡ coded_section o C goal)
    unfolding is_other_table
    home_kind s f t =
        let p = or_parts (not (eqb (section o C (joined_section o C A table)).sh_type (section o A table).sh_type))
        (not (eqb (section o C (joined_section o C A table)).sh_info (coded_section o C goal))) (not_other_lem s f t) in
        rw (home_there j t) (eqb-true _ _ (not-false _ p.0), eqb-true _ _ (not-false _ p.1))

  -- ---- the new sections

  -- the i-th of them is opened by one table
  pub record Opened (i : ℕ) : Type 0 where
    pub below : opened_by o C A stay i < n
    pub opening : opens (opened_by o C A stay i) ≡ true
    pub number : count opens (opened_by o C A stay i) ≡ i

  opened_of : (k : ℕ) → k < n → opens k ≡ true → opened_by o C A stay (count opens k) ≡ k
  unfolding opened_by new_tables
  opened_of k h t = select_at opens (λ j. j) k n 0 h t

  pub opened_at : (i : ℕ) → i < new_count o C A stay → Opened i
  unfolding new_count
  opened_at i h =
      let r = count_hit opens n i h in
      let e : opened_by o C A stay i ≡ r.0 = rw r.3 at (opened_of r.0 r.1 r.2) in
      record { below = rw e r.1; opening = rw e r.2; number = rw e r.3 }

  pub opened_lt : (i : ℕ) → i < new_count o C A stay → opened_by o C A stay i < n
  opened_lt i h = (opened_at i h).below

  pub opened_homeless : (i : ℕ) → i < new_count o C A stay → has_home o C A stay (opened_by o C A stay i) ≡ false
  opened_homeless i h = (opens_parts (opened_by o C A stay i) (opened_at i h).opening).0

  pub opened_home : (i : ℕ) → i < new_count o C A stay → home_of o C A stay (opened_by o C A stay i) ≡ stay + i
  opened_home i h = home_opened (opened_by o C A stay i) (opened_at i h).opening ∙ ap (λ (x : ℕ). stay + x) (opened_at i h).number

  -- no section that stays has its name
  pub new_name_lem : (i s : ℕ) → i < new_count o C A stay → s < stay → stay ≤ section_count o C → same (section_name o C s) (new_name o C A stay i) ≡ false
  unfolding new_name has_home section_named has_name
  new_name_lem i s h l u =
      let k = opened_by o C A stay i in
      let f : stay ≤ joined_section o C A (carried_table o A k) = ltb-false _ _ (opened_homeless i h) in
      let g : stay ≤ section_named o C (home_name o A k) = rw (joined_named o C A k) at f in
      (first_is (has_name o C (home_name o A k)) 0 (section_count o C) (omega arith)).below s (omega arith) (omega (arith, g, l))

  -- two of them have two names
  pub new_apart : (i j : ℕ) → i < new_count o C A stay → j < new_count o C A stay → (i ≡ j → ⊥) → same (new_name o C A stay i) (new_name o C A stay j) ≡ false
  unfolding new_name same_home is_holder
  new_apart i j h l d =
      let a = opened_by o C A stay i in
      let b = opened_by o C A stay j in
      by-test (same (home_name o A a) (home_name o A b))
      (λ t.
      let e : a ≡ b = holder_once (same_home o A) n (home_equivalence o A) a b
      (eq-eqb (holds a) a (opens_parts a (opened_at i h).opening).1) (eq-eqb (holds b) b (opens_parts b (opened_at j l).opening).1) t in
      absurd (d (sym (opened_at i h).number ∙ ap (count opens) e ∙ (opened_at j l).number)))
      (λ f. f)

  -- a table that no section stays for joins the new section of its name
  pub home_name_lem : (j : ℕ) → j < n → has_home o C A stay j ≡ false → new_name o C A stay (home_of o C A stay j - stay) ≡ home_name o A j
  unfolding new_name
  home_name_lem j h f =
      let e : home_of o C A stay j - stay ≡ count opens (holds j) = omega (arith, home_new j f) in
      let l : holds j < n = omega (arith, holds_le j h) in
      rw (e, opened_of (holds j) l (holder_opens j h f)) (sym (same_home_name o A j (holds j) (holder_alike (same_home o A) n (home_equivalence o A) j h)))

  -- and what opens that section is of its type, and for the same section of C
  pub new_kind : (j : ℕ) → j < n → has_home o C A stay j ≡ false
      → ((section o A (carried_table o A (opened_by o C A stay (home_of o C A stay j - stay)))).sh_type ≡ (section o A (carried_table o A j)).sh_type)
      × (target_code (carried_code o A (carried_table o A (opened_by o C A stay (home_of o C A stay j - stay)))) ≡ target_code (carried_code o A (carried_table o A j)))
  unfolding new_name
  new_kind j h f =
      let l : home_of o C A stay j - stay < new_count o C A stay = omega (arith, home_new j f, home_lt j h) in
      name_kind o A (opened_by o C A stay (home_of o C A stay j - stay)) j (opened_lt (home_of o C A stay j - stay) l) h (home_name_lem j h f)

  -- nothing joins a section behind them
  pub joined_none : (bytes : ℕ → List ℕ) (i : ℕ) → stay + new_count o C A stay ≤ i → joined_bytes o C A stay bytes i ≡ []
  unfolding joined_bytes
  joined_none bytes i h = gather_none _ _ n (λ j l. ne_eqb (home_of o C A stay j) i (λ e. absurd (omega (arith, e, home_lt j l))))

  -- ---- by the rows

  -- before the table that opens a section none has it for its home
  home_else : (i j : ℕ) → i < new_count o C A stay → j < opened_by o C A stay i → home_of o C A stay j < stay + i
  home_else i j h l =
      let p = opened_at i h in
      let k = opened_by o C A stay i in
      let m : j < n = omega (arith, p.below) in
      by-test (opens j)
      (λ t. rw (home_opened j t) (omega (arith, p.number, count_lt opens j k l t)))
      (λ f. omega (arith, home_lower j m f, p.number, count_mono opens j k (omega arith)))

  module _ (rows : List ℕ) (w : HomesListed o C A stay (carried_count o A) rows) (i : ℕ) (h : i < new_count o C A stay) where
    is_first : IsFirst (λ j. eqb (home_in rows j) (stay + i)) 0 n (opened_by o C A stay i)
    is_first = record {
      low = omega arith;
      high = omega (arith, opened_lt i h);
      below = λ j a l. ne_eqb (home_in rows j) (stay + i) (λ e. absurd (omega (arith, e, w.is j (omega (arith, l, opened_lt i h)), home_else i j h l)));
      here = λ l. eq-eqb _ _ (w.is (opened_by o C A stay i) l ∙ opened_home i h);
    }

    pub opened_is : opened_in rows (carried_count o A) stay i ≡ opened_by o C A stay i
    unfolding opened_in
    opened_is = first_unique _ 0 n _ _ (first_is _ 0 n (omega arith)) is_first
