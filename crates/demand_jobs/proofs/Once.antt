-- The references that the job's result owes are three, and the row of them has each once. Assumes nothing.
use Prim.Native.Nat.{ℕ, zero, suc, ◌≤◌}
use mathlib.Core.Path.{◌≡◌, refl, sym, ap, ◌∙◌}
use mathlib.Core.Bool.{Bool, true, false, cond, ◌&&◌, ◌||◌}
use mathlib.Core.List.{List, [], ◌∷◌}
use native.Mathlib.Omega.{arith}
use lib.Dec.{eqb, ltb}
use borrow.Author.Tests.{eqb-true, le-ltb, ne_eqb}
use Rattle.base_lists.specs.Ranges.{count}
use Rattle.base_lists.proofs.Ranges.{by-test}
use Rattle.carry_clash.specs.Clash.{is_carried}
use Rattle.base_fields.specs.declared.ByteOrder.TheVariants.{Big}
use Rattle.elf_readers.specs.Readers.{section_count}
use Rattle.blocks_places.specs.Places.{Place, places_of}
use Rattle.elf_relocations.specs.Relocations.{is_table, relocation_count}
use Rattle.base_answers.specs.Answers.{COMPILED, ASSEMBLED}
use Rattle.demand_clauses.specs.Reading.{Reference, same_reference, reference_at, times_in}
use Rattle.demand_clauses.specs.TakenOver.{is_owed_c, is_owed_a, is_owed, origins}
use Rattle.demand_jobs.specs.Job.{C, A, B}
use Rattle.demand_jobs.proofs.Everything.{everything}

abbrev P : List Place
P = places_of Big C B

abbrev reference : ℕ → ℕ → ℕ → Reference
reference a t k = record { object = a; table = t; entry = k }

abbrev three : List Reference
three = reference COMPILED 2 0 ∷ reference COMPILED 2 2 ∷ reference ASSEMBLED 2 0 ∷ []

owed_are : origins Big C A P B 0 ≡ three
unfolding everything
owed_are = refl

entries_c : (relocation_count Big C 2 ≡ 3) × (section_count Big C ≡ 5)
unfolding everything
entries_c = (refl, refl)

entries_a : (relocation_count Big A 2 ≡ 1) × (section_count Big A ≡ 5)
unfolding everything
entries_a = (refl, refl)

-- ---- over any numbers

and_none : (a b : Bool) → (a && (b && false)) ≡ false
and_none true true = refl
and_none true false = refl
and_none false b = refl

not_two : (t : ℕ) (b : Bool) → 3 ≤ t → (eqb t 2 && b) ≡ false
not_two t b h = rw (ne_eqb t 2 (λ e. omega (arith, e, h)))

not_these : (k : ℕ) → 3 ≤ k → (eqb k 0 || eqb k 2) ≡ false
not_these k h = rw (ne_eqb k 0 (λ e. omega (arith, e, h)), ne_eqb k 2 (λ e. omega (arith, e, h)))

-- ---- C's are the first and the third entry of its table

past_c : (t k : ℕ) → 5 ≤ t → is_owed_c Big C A P B t k ≡ false
unfolding is_owed_c
past_c t k h = rw (entries_c.1, le-ltb t 5 h)

behind_c : (k : ℕ) → 3 ≤ k → is_owed_c Big C A P B 2 k ≡ false
unfolding is_owed_c
behind_c k h = rw (entries_c.0, le-ltb k 3 h) (and_none (ltb 2 (section_count Big C)) (is_table Big C 2))

owed_c : (t k : ℕ) → is_owed_c Big C A P B t k ≡ (eqb t 2 && (eqb k 0 || eqb k 2))
unfolding everything
owed_c zero k = refl
owed_c (suc zero) k = refl
owed_c (suc (suc zero)) zero = refl
owed_c (suc (suc zero)) (suc zero) = refl
owed_c (suc (suc zero)) (suc (suc zero)) = refl
owed_c (suc (suc zero)) (suc (suc (suc k))) = behind_c (suc (suc (suc k))) (omega arith) ∙ sym (not_these (suc (suc (suc k))) (omega arith))
owed_c (suc (suc (suc zero))) k = refl
owed_c (suc (suc (suc (suc zero)))) k = refl
owed_c (suc (suc (suc (suc (suc t))))) k =
    past_c (suc (suc (suc (suc (suc t))))) k (omega arith) ∙ sym (not_two (suc (suc (suc (suc (suc t))))) (eqb k 0 || eqb k 2) (omega arith))

-- ---- A's is the first of its table

past_a : (t k : ℕ) → 5 ≤ t → is_owed_a Big C A P B t k ≡ false
unfolding is_owed_a
past_a t k h = rw (entries_a.1, le-ltb t 5 h)

behind_a : (k : ℕ) → 1 ≤ k → is_owed_a Big C A P B 2 k ≡ false
unfolding is_owed_a
behind_a k h = rw (entries_a.0, le-ltb k 1 h) (and_none (ltb 2 (section_count Big A)) (is_carried Big A 2))

owed_a : (t k : ℕ) → is_owed_a Big C A P B t k ≡ (eqb t 2 && eqb k 0)
unfolding everything
owed_a zero k = refl
owed_a (suc zero) k = refl
owed_a (suc (suc zero)) zero = refl
owed_a (suc (suc zero)) (suc k) = behind_a (suc k) (omega arith) ∙ sym (ne_eqb (suc k) 0 (λ e. omega (arith, e)))
owed_a (suc (suc (suc zero))) k = refl
owed_a (suc (suc (suc (suc zero)))) k = refl
owed_a (suc (suc (suc (suc (suc t))))) k =
    past_a (suc (suc (suc (suc (suc t))))) k (omega arith) ∙ sym (not_two (suc (suc (suc (suc (suc t))))) (eqb k 0) (omega arith))

-- ---- how often a reference stands in the row

times_c : (t k : ℕ) → times_in three (reference COMPILED t k) ≡ cond (eqb t 2 && (eqb k 0 || eqb k 2)) 1 0
unfolding times_in same_reference reference_at count
times_c t k = by-test (eqb t 2)
    (λ y. by-test (eqb k 0)
    (λ z. let e = eqb-true k 0 z in rw (y, e))
    (λ n. by-test (eqb k 2) (λ z. rw (y, n, z)) (λ m. rw (y, n, m))))
    (λ n. rw n)

times_a : (t k : ℕ) → times_in three (reference ASSEMBLED t k) ≡ cond (eqb t 2 && eqb k 0) 1 0
unfolding times_in same_reference reference_at count
times_a t k = by-test (eqb t 2) (λ y. by-test (eqb k 0) (λ z. rw (y, z)) (λ n. rw (y, n))) (λ n. rw n)

times_other : (a t k : ℕ) → eqb a COMPILED ≡ false → eqb a ASSEMBLED ≡ false → times_in three (reference a t k) ≡ 0
unfolding times_in same_reference reference_at count
times_other a t k n m = rw (n, m)

is_c : (t k : ℕ) → is_owed Big C A P B (reference COMPILED t k) ≡ is_owed_c Big C A P B t k
unfolding is_owed
is_c t k = refl

is_a : (t k : ℕ) → is_owed Big C A P B (reference ASSEMBLED t k) ≡ is_owed_a Big C A P B t k
unfolding is_owed
is_a t k = refl

is_other : (a t k : ℕ) → eqb a COMPILED ≡ false → eqb a ASSEMBLED ≡ false → is_owed Big C A P B (reference a t k) ≡ false
unfolding is_owed
is_other a t k n m = rw (n, m)

once_at : (a t k : ℕ) → times_in three (reference a t k) ≡ cond (is_owed Big C A P B (reference a t k)) 1 0
once_at a t k = by-test (eqb a COMPILED)
    (λ y. rw (eqb-true a COMPILED y) (times_c t k ∙ ap (λ (b : Bool). cond b 1 0) (sym (is_c t k ∙ owed_c t k))))
    (λ n. by-test (eqb a ASSEMBLED)
    (λ y. rw (eqb-true a ASSEMBLED y) (times_a t k ∙ ap (λ (b : Bool). cond b 1 0) (sym (is_a t k ∙ owed_a t k))))
    (λ m. times_other a t k n m ∙ ap (λ (b : Bool). cond b 1 0) (sym (is_other a t k n m))))

-- each that is owed stands there once, and no other does
pub owed_once : (r : Reference) → times_in (origins Big C A P B 0) r ≡ cond (is_owed Big C A P B r) 1 0
owed_once r = ap (λ (l : List Reference). times_in l r) owed_are ∙ once_at r.object r.table r.entry
