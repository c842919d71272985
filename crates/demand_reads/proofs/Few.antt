-- How many: no more indices than values where no two have the same value; so at most six new tables, one for each type and each of .text, .data and .rodata. Assumes nothing.
use Prim.Native.Nat.{ℕ, zero, suc, ◌+◌, ◌-◌, ◌≤◌, ◌<◌}
use mathlib.Core.Path.{◌≡◌, refl, sym, ap, ◌∙◌}
use mathlib.Core.Logic.{◌≢◌}
use mathlib.Core.Bool.{Bool, true, false, cond, ◌||◌}
use mathlib.Core.List.{List, []}
use native.Mathlib.Numerals.{add-one}
use native.Mathlib.Omega.{arith}
use lib.ListN.{length}
use lib.Dec.{eqb, ltb}
use borrow.Author.Tests.{ltb-true, eq-eqb, ne_eqb, eqb-false}
use Rattle.base_lists.specs.Ranges.{first, count}
use Rattle.base_lists.specs.Strings.{same}
use Rattle.base_lists.proofs.Ranges.{by-test, by_last, by-lt, both, and_parts, some_next, some_no, count_le, count_same}
use Rattle.base_lists.proofs.Strings.{same_eq}
use Rattle.base_fields.specs.declared.ByteOrder.{ByteOrder}
use Rattle.base_scope.specs.Codes.{BSS, RODATA, LATE_RODATA, section_codes, code_type, target_code}
use Rattle.base_scope.specs.Elf.{SHT_NOBITS}
use Rattle.elf_readers.specs.Readers.{section_count, section, coded_section, coded_contents}
use Rattle.elf_readers.proofs.Readers.{contents_none, coded_there, coded_absent}
use Rattle.elf_relocations.specs.Relocations.{is_rela}
use Rattle.elf_check.specs.Sound.{Sound}
use Rattle.symbols_taken.specs.Used.{is_source_table}
use Rattle.carry_clash.specs.Clash.{joined_name, carried_code, is_carried}
use Rattle.carry_homes.specs.Homes.{carried_count, carried_table, home_name, new_count, opened_by, new_name}
use Rattle.carry_homes.proofs.Tables.{code_last, carried_is}
use Rattle.carry_homes.proofs.Joins.{goal_lines, opened_lt, new_apart}

-- ---- counting

or_no : (b : Bool) → (b || false) ≡ b
or_no true = refl
or_no false = refl

-- one index more passes
count_more : (p : ℕ → Bool) (x k : ℕ) → x < k → p x ≡ false → count (λ c. p c || eqb x c) k ≡ count p k + 1
unfolding count
count_more p x zero h f = absurd (omega (arith, h))
count_more p x (suc k) h f = by_last x k h
    (λ l.
    let n : eqb x k ≡ false = ne_eqb x k (λ e. omega (arith, l, e)) in
    let r = count_more p x k l f in
    by-test (p k) (λ t. rw (n, t, r)) (λ u. rw (n, u, r)))
    (λ e.
    let q : eqb x k ≡ true = eq-eqb x k e in
    let z : p k ≡ false = rw e at f in
    let s : count (λ c. p c || eqb x c) k ≡ count p k
    = count_same (λ c. p c || eqb x c) p k (λ c u. ap (λ (b : Bool). p c || b) (ne_eqb x c (λ y. omega (arith, u, e, y))) ∙ or_no (p c)) in
    rw (q, z, s))

module _ (f : ℕ → ℕ) (k : ℕ) where
  -- some index below n has the value c
  abbrev hit : ℕ → ℕ → Bool
  hit n c = ltb (first (λ i. eqb (f i) c) 0 n) n

  hits_many : (n : ℕ) → ((i : ℕ) → i < n → f i < k) → ((i j : ℕ) → i < j → j < n → f i ≢ f j) → n ≤ count (hit n) k
  hits_many zero small apart = omega arith
  hits_many (suc n) small apart =
      let new : hit n (f n) ≡ false = some_no (λ i. eqb (f i) (f n)) 0 n (omega arith) (λ j l h. ne_eqb (f j) (f n) (apart j n h (omega arith))) in
      let more = count_more (hit n) (f n) k (small n (omega arith)) new in
      let next : count (hit (n + 1)) k ≡ count (λ c. hit n c || eqb (f n) c) k = count_same (hit (n + 1)) (λ c. hit n c || eqb (f n) c) k (λ c h. some_next (λ i. eqb (f i) c) n) in
      let before = hits_many n (λ i h. small i (omega (arith, h))) (λ i j h l. apart i j h (omega (arith, l))) in
      rw (← add-one n) (omega (arith, before, more, next))

  -- indices with values below k, no two with one, are at most k
  pub at_most : (n : ℕ) → ((i : ℕ) → i < n → f i < k) → ((i j : ℕ) → i < j → j < n → f i ≢ f j) → n ≤ k
  at_most n small apart = omega (arith, hits_many n small apart, count_le (hit n) k)

-- ---- the section that a carried table is for

-- one that holds bytes
pub carried_holds : (o : ByteOrder) (A : List ℕ) (t : ℕ) → is_carried o A t ≡ true → 0 < length (coded_contents o A (carried_code o A t))
unfolding is_carried
carried_holds o A t e =
    let n : ℕ = length (coded_contents o A (carried_code o A t)) in
    ltb-true 0 n (and_parts (is_source_table o A t) (ltb 0 n) e).1

module _ (o : ByteOrder) (A : List ℕ) (sound : Sound o A) where
  -- .bss holds none, so no carried table is for it
  bss_empty : coded_contents o A BSS ≡ []
  unfolding code_type section_codes
  bss_empty = by-lt (coded_section o A BSS) (section_count o A)
      (λ h.
      let i : ℕ = coded_section o A BSS in
      let e : (section o A i).sh_type ≡ SHT_NOBITS = sound.types BSS (omega arith) (omega arith) h in
      coded_there o A BSS h ∙ sym (contents_none o A i (section o A i) refl e))
      (λ h. coded_absent o A BSS h)

  not_bss : (t : ℕ) → is_carried o A t ≡ true → carried_code o A t ≢ BSS
  not_bss t e q =
      let z : length (coded_contents o A (carried_code o A t)) ≡ 0 = ap (λ (x : ℕ). length (coded_contents o A x)) q ∙ ap length bss_empty in
      omega (arith, carried_holds o A t e, z)

  -- it is .text, .data or .rodata
  goal_few : (j : ℕ) → j < carried_count o A → target_code (carried_code o A (carried_table o A j)) ≤ RODATA
  unfolding target_code
  goal_few j h =
      let t : ℕ = carried_table o A j in
      let c : ℕ = carried_code o A t in
      let e = carried_is o A j h in
      by-test (eqb c LATE_RODATA)
      (λ y. rw y (omega arith))
      (λ n. rw n (omega (arith, not_bss t e, code_last o A t e, eqb-false c LATE_RODATA n)))

  -- ---- six keys: three sections, with and without addends

  module _ (C : List ℕ) (stay : ℕ) where
    abbrev opener : ℕ → ℕ
    opener i = carried_table o A (opened_by o C A stay i)

    abbrev goal : ℕ → ℕ
    goal i = target_code (carried_code o A (carried_table o A (opened_by o C A stay i)))

    abbrev key : ℕ → ℕ
    key i = cond (is_rela o A (carried_table o A (opened_by o C A stay i))) 3 0 + (target_code (carried_code o A (carried_table o A (opened_by o C A stay i))) - 1)

    record Goal (i : ℕ) : Type 0 where
      low : 1 ≤ goal i
      high : goal i ≤ 3

    goal_of : (i : ℕ) → i < new_count o C A stay → Goal i
    goal_of i h =
        let j : ℕ = opened_by o C A stay i in
        let l = opened_lt o C A stay i h in
        record { low = (goal_lines o A j l).0; high = goal_few j l }

    -- the key is one of six
    key_low : (i : ℕ) → i < new_count o C A stay → key i < 6
    key_low i h =
        let g = goal_of i h in
        by-test (is_rela o A (opener i)) (λ t. rw t (omega (arith, g.low, g.high))) (λ f. rw f (omega (arith, g.low, g.high)))

    -- a key tells the name
    key_parts : (a b : Bool) (x y : ℕ) → 1 ≤ x → x ≤ 3 → 1 ≤ y → y ≤ 3 → cond a 3 0 + (x - 1) ≡ cond b 3 0 + (y - 1) → (a ≡ b) × (x ≡ y)
    key_parts true true x y l h k u e = (refl, omega (arith, e, l, k))
    key_parts true false x y l h k u e = absurd (omega (arith, e, l, h, k, u))
    key_parts false true x y l h k u e = absurd (omega (arith, e, l, h, k, u))
    key_parts false false x y l h k u e = (refl, omega (arith, e, l, k))

    key_name_lem : (i j : ℕ) → Goal i → Goal j → key i ≡ key j → new_name o C A stay i ≡ new_name o C A stay j
    unfolding new_name home_name
    key_name_lem i j g h e =
        let q = key_parts (is_rela o A (opener i)) (is_rela o A (opener j)) (goal i) (goal j) g.low g.high h.low h.high e in
        ap (λ (b : Bool). joined_name b (goal i)) q.0 ∙ ap (joined_name (is_rela o A (opener j))) q.1

    -- new sections have different names, so different keys
    key_apart : (i j : ℕ) → i < j → j < new_count o C A stay → key i ≢ key j
    key_apart i j l h e =
        let k : i < new_count o C A stay = omega (arith, l, h) in
        both {b = same (new_name o C A stay i) (new_name o C A stay j)} (same_eq _ _ (key_name_lem i j (goal_of i k) (goal_of j h) e))
        (new_apart o C A stay i j k h (λ q. omega (arith, q, l)))

    -- so there are at most six
    pub new_six : new_count o C A stay ≤ 6
    new_six = at_most key 6 (new_count o C A stay) key_low key_apart
