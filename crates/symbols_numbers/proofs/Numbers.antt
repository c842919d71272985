-- After p turns every id has the number that the first p positions give it: a holder's is its place, and another position's is its holder's, which stands before it and is
-- not overwritten since no id stands twice. Assumes nothing.
use Prim.Native.Nat.{ℕ, zero, suc, ◌+◌, ◌*◌, ◌≤◌, ◌<◌}
use mathlib.Core.Path.{◌≡◌, refl, sym, ap, ◌∙◌}
use mathlib.Core.Logic.{◌≢◌}
use mathlib.Core.List.{List}
use native.Mathlib.Numerals.{add-one}
use native.Mathlib.Omega.{arith}
use lib.ListN.{length, get_or, get_or-replicate}
use lib.Dec.{eqb}
use borrow.Author.Tests.{eq-eqb, ne_eqb, eqb-true, eqb-false}
use Rattle.base_lists.specs.Windows.{spliced}
use Rattle.base_lists.proofs.Ranges.{by-test, by_last}
use Rattle.base_buffers.specs.Buffers.{zeros}
use Rattle.base_buffers.proofs.Buffers.{length_zeros}
use Rattle.base_fields.specs.declared.ByteOrder.TheVariants.{Big}
use Rattle.base_fields.specs.Numbers.{encoded}
use Rattle.base_fields.proofs.Numbers.{big_2}
use Rattle.base_groups.specs.Groups.{grouped_place}
use Rattle.symbols_rows.specs.Rows.{half_in, result_group_in}
use Rattle.symbols_numbers.specs.Numbers.{holds_in, Tables, HoldersFirst, IdRoom, NumberRoom, NumberedAt, number_on, number_at, number_by, IdsNumbered}
use Rattle.symbols_numbers.proofs.Leaves.{self_holds, else_held, word_long, word_same, word_other}

zero_at_lem : (n i : ℕ) → i < n → get_or (zeros n) i 0 ≡ 0
unfolding zeros
zero_at_lem n i h = get_or-replicate n i 0 0 h

word_zero : (n i : ℕ) → 2 * i + 2 ≤ n → half_in (zeros n) i ≡ 0
unfolding half_in
word_zero n i h =
    let l : 2 * i + 2 ≤ length (zeros n) = rw (length_zeros n) h in
    rw (big_2 (zeros n) (2 * i) l, zero_at_lem n (2 * i) (omega arith), zero_at_lem n (2 * i + 1) (omega arith))

module _ (T L H : List ℕ) (m : ℕ) where
  pub numbered_none : (n : ℕ) (N : List ℕ) → N ≡ zeros n → IdsNumbered T L H m 0 N
  unfolding number_by
  numbered_none n N e = record { word = λ i h. rw e (word_zero n i (rw (e, length_zeros n) at h)) }

  by_here : (i k : ℕ) → half_in L k ≡ i → number_by T L H m i (k + 1) ≡ number_at T L H m k
  unfolding number_by
  by_here i k e = rw (add-one k, eq-eqb (half_in L k) i e)

  by_other : (i k : ℕ) → half_in L k ≢ i → number_by T L H m i (k + 1) ≡ number_by T L H m i k
  unfolding number_by
  by_other i k d = rw (add-one k, ne_eqb (half_in L k) i d)

  pub by_none : (i k : ℕ) → ((p : ℕ) → p < k → half_in L p ≢ i) → number_by T L H m i k ≡ 0
  unfolding number_by
  by_none i zero none = refl
  by_none i (suc k) none = rw (ne_eqb (half_in L k) i (none k (omega arith))) (by_none i k (λ p h. none p (omega arith)))

  module _ (x : HoldersFirst L H m) where
    -- an id has the number of its one position
    pub by_position : (q k : ℕ) → q < k → k ≤ m → number_by T L H m (half_in L q) k ≡ number_at T L H m q
    by_position q zero l u = absurd (omega arith)
    by_position q (suc k) l u = rw (← add-one k) (by_last q k l
        (λ h. by_other (half_in L q) k (λ e. absurd (omega (arith, x.once k q (omega arith) (omega arith) e))) ∙ by_position q k h (omega arith))
        (λ e. rw e (by_here (half_in L k) k refl)))

    holder_number : (p : ℕ) → p < m → number_at T L H m (half_in H p) ≡ number_at T L H m p
    unfolding number_at
    holder_number p h = rw (x.itself p h)

    module _ (p place : ℕ) (N : List ℕ) (w : IdsNumbered T L H m p N) (h : p < m) (r : IdRoom L m N) (e : place ≡ grouped_place (holds_in H) (result_group_in T L) m p) where
      own_number : half_in H p ≡ p → place + 1 ≡ number_at T L H m p
      unfolding number_at
      own_number q = rw (q, e)

      pub number_is : number_on L H p place N ≡ number_at T L H m p
      unfolding number_on
      number_is = by-test (holds_in H p)
          (λ t. rw t (own_number (self_holds H p t)))
          (λ f.
          let l : half_in H p < p = omega (arith, x.early p h, else_held H p f) in
          rw f (w.word (half_in L (half_in H p)) (r.word (half_in H p) (omega arith)) ∙ by_position (half_in H p) p l (omega arith) ∙ holder_number p h))

      pub numbered_next : (next : ℕ) (N' : List ℕ) → NumberedAt L H p place next N N' → IdsNumbered T L H m (p + 1) N'
      numbered_next next N' n = record {
        word = λ i l.
            let f : 2 * half_in L p + 2 ≤ length N = r.word p h in
            let g : N' ≡ spliced N (2 * half_in L p) (encoded Big 2 (number_at T L H m p)) = rw (← number_is) n.put in
            let k : length N' ≡ length N = ap length g ∙ word_long N (half_in L p) (number_at T L H m p) f in
            by-test (eqb (half_in L p) i)
            (λ t.
            let q : half_in L p ≡ i = eqb-true (half_in L p) i t in
            rw (by_here i p q, g, ← q) (word_same N (half_in L p) (number_at T L H m p) f))
            (λ t.
            let q : half_in L p ≢ i = eqb-false (half_in L p) i t in
            rw (by_other i p q, g) (word_other N (half_in L p) (number_at T L H m p) f i (λ y. q (sym y)) ∙ w.word i (rw k at l)));
      }

  -- the room that a turn needs
  pub turn_room : (p : ℕ) (N : List ℕ) → Tables T L H m → HoldersFirst L H m → IdRoom L m N → p < m → NumberRoom L H p N
  turn_room p N t x r h =
      let l : half_in H p < m = omega (arith, x.early p h) in
      let d = t.held p h in
      record { position = d.own.inside; holder = d.inside; held = d.holder.inside; word = r.word p h; held_word = r.word (half_in H p) l }

  pub numbered_end : (p : ℕ) (N : List ℕ) → p ≤ m → m ≤ p → IdsNumbered T L H m p N → IdsNumbered T L H m m N
  numbered_end p N l u w = let e : p ≡ m = omega arith in rw e at w

pub room_same : (L : List ℕ) (m : ℕ) (N N' : List ℕ) → length N' ≡ length N → IdRoom L m N → IdRoom L m N'
room_same L m N N' e r = record { word = λ p h. rw e (r.word p h) }
