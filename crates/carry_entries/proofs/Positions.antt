-- The positions of a table's entries that are kept and those that are left out are together all its positions, each once, in old order; and what the table brings is the
-- bytes of those that are kept, in that order. Assumes nothing.
use Prim.Native.Nat.{ℕ, zero, suc, ◌+◌, ◌<◌}
use mathlib.Core.Path.{◌≡◌, refl, sym, ap, ◌∙◌}
use mathlib.Core.Bool.{Bool, true, false, not}
use mathlib.Core.List.{List, [], ◌∷◌, ◌++◌}
use native.Mathlib.Omega.{arith}
use lib.ListN.{length, get_or}
use borrow.Author.Tests.{not-true}
use Rattle.base_lists.specs.Ranges.{count, gather, select}
use Rattle.base_lists.specs.Records.{flat}
use Rattle.base_lists.proofs.Ranges.{by-test, both, by-lt, count_mono, count_lt, count_hit, select_length, select_at}
use Rattle.base_lists.proofs.Records.{flat_append, flat_none, flat_one}
use Rattle.base_fields.specs.declared.ByteOrder.{ByteOrder}
use Rattle.elf_records.specs.Relocation.{relocation_bytes}
use Rattle.elf_relocations.specs.Relocations.{relocation_count}
use Rattle.carry_entries.specs.Entries.{Carrying, is_kept, carried_entry, carried_bytes}
use Rattle.carry_entries.specs.Positions.{kept_positions, left_positions, StandsIn, Climbs}

-- ---- over any test

module _ (p : ℕ → Bool) where
  count_parts : (n : ℕ) → count p n + count (λ k. not (p k)) n ≡ n
  unfolding count
  count_parts zero = refl
  count_parts (suc n) = by-test (p n)
      (λ y. rw y (omega (arith, count_parts n)))
      (λ f. rw f (omega (arith, count_parts n)))

  module _ (n : ℕ) where
    -- the index at place j
    at_place : (j : ℕ) → j < length (select p (λ k. k) n) → (i : ℕ) × (i < n) × (p i ≡ true) × (count p i ≡ j) × (get_or (select p (λ k. k) n) j 0 ≡ i)
    at_place j h =
        let g : j < count p n = omega (arith, h, select_length p (λ k. k) n) in
        let r = count_hit p n j g in
        let e : get_or (select p (λ k. k) n) (count p r.0) 0 ≡ r.0 = select_at p (λ k. k) r.0 n 0 r.1 r.2 in
        (r.0, r.1, r.2, r.3, ap (λ (x : ℕ). get_or (select p (λ k. k) n) x 0) (sym r.3) ∙ e)

    climbs : Climbs (select p (λ k. k) n)
    climbs i j h l =
        let a = at_place i (omega (arith, h, l)) in
        let b = at_place j l in
        let e : a.0 < b.0 = by-lt a.0 b.0 (λ u. u) (λ u. absurd (omega (arith, count_mono p b.0 a.0 u, a.3, b.3, h))) in
        omega (arith, e, a.4, b.4)

    stands : (k : ℕ) → k < n → p k ≡ true → StandsIn k (select p (λ k. k) n)
    stands k h y =
        let g : count p k < length (select p (λ k. k) n) = omega (arith, count_lt p k n h y, select_length p (λ k. k) n) in
        (count p k, g, select_at p (λ k. k) k n 0 h y)

    stood : (k : ℕ) → StandsIn k (select p (λ k. k) n) → (k < n) × (p k ≡ true)
    stood k s =
        let a = at_place s.0 s.1 in
        let e : a.0 ≡ k = sym a.4 ∙ s.2 in
        rw (← e) (a.1, a.2)

  select_flat : (f : ℕ → List ℕ) (n : ℕ) → gather p f n ≡ flat f (select p (λ k. k) n)
  unfolding select gather
  select_flat f zero = sym (flat_none f)
  select_flat f (suc n) = by-test (p n)
      (λ y.
      rw y
      (ap (λ (l : List ℕ). l ++ f n) (select_flat f n)
      ∙ ap (λ (l : List ℕ). flat f (gather p (λ k. k ∷ []) n) ++ l) (sym (flat_one f n))
      ∙ sym (flat_append f (gather p (λ k. k ∷ []) n) (n ∷ []))))
      (λ g. rw g (select_flat f n))

-- ---- over the entries of a table

module _ (o : ByteOrder) (F : List ℕ) (w : Carrying) (t : ℕ) where
  pub positions_all : length (kept_positions o F w t) + length (left_positions o F w t) ≡ relocation_count o F t
  unfolding kept_positions left_positions
  positions_all = omega (
    arith,
    select_length (is_kept o F w t) (λ k. k) (relocation_count o F t),
    select_length (λ k. not (is_kept o F w t k)) (λ k. k) (relocation_count o F t),
    count_parts (is_kept o F w t) (relocation_count o F t),
  )

  -- in old order, none twice
  pub kept_climbs : Climbs (kept_positions o F w t)
  unfolding kept_positions
  kept_climbs = climbs (is_kept o F w t) (relocation_count o F t)

  pub left_climbs : Climbs (left_positions o F w t)
  unfolding left_positions
  left_climbs = climbs (λ k. not (is_kept o F w t k)) (relocation_count o F t)

  -- each position stands in one of the two, and in no other
  module _ (k : ℕ) where
    pub kept_stands : k < relocation_count o F t → is_kept o F w t k ≡ true → StandsIn k (kept_positions o F w t)
    unfolding kept_positions
    kept_stands h y = stands (is_kept o F w t) (relocation_count o F t) k h y

    pub left_stands : k < relocation_count o F t → is_kept o F w t k ≡ false → StandsIn k (left_positions o F w t)
    unfolding left_positions
    left_stands h f = stands (λ j. not (is_kept o F w t j)) (relocation_count o F t) k h (ap not f)

    pub kept_stood : StandsIn k (kept_positions o F w t) → (k < relocation_count o F t) × (is_kept o F w t k ≡ true)
    unfolding kept_positions
    kept_stood s = stood (is_kept o F w t) (relocation_count o F t) k s

    pub left_stood : StandsIn k (left_positions o F w t) → (k < relocation_count o F t) × (is_kept o F w t k ≡ false)
    unfolding left_positions
    left_stood s =
        let r = stood (λ j. not (is_kept o F w t j)) (relocation_count o F t) k s in
        (r.0, not-true (is_kept o F w t k) r.1)

    pub positions_apart : StandsIn k (kept_positions o F w t) → StandsIn k (left_positions o F w t) → ⊥
    positions_apart s u = both (kept_stood s).1 (left_stood u).1

  -- what the table brings
  pub carried_kept : carried_bytes o F w t ≡ flat (λ k. relocation_bytes o (carried_entry o F w t k)) (kept_positions o F w t)
  unfolding carried_bytes kept_positions
  carried_kept = select_flat (is_kept o F w t) (λ k. relocation_bytes o (carried_entry o F w t k)) (relocation_count o F t)
