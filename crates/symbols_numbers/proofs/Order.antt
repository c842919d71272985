-- After p turns each holder below p stands at its place; the places of two holders differ, and at the end every place has its holder. Assumes nothing.
use Prim.Native.Nat.{ℕ, ◌+◌, ◌*◌, ◌≤◌, ◌<◌}
use mathlib.Core.Path.{◌≡◌, sym, ap, ◌∙◌}
use mathlib.Core.Bool.{true, false}
use mathlib.Core.List.{List}
use native.Mathlib.Omega.{arith}
use lib.ListN.{length}
use Rattle.base_lists.proofs.Ranges.{by-test, both, by-lt, select_all_is}
use Rattle.base_lists.specs.Windows.{spliced}
use Rattle.base_fields.specs.declared.ByteOrder.TheVariants.{Big}
use Rattle.base_fields.specs.Numbers.{encoded}
use Rattle.base_groups.specs.Groups.{grouped_place}
use Rattle.base_groups.proofs.Groups.{stands_at, place_once}
use Rattle.symbols_merge.specs.Merged.{RESULT_GROUPS}
use Rattle.symbols_rows.specs.Rows.{half_in, halves_in, result_group_in}
use Rattle.symbols_numbers.specs.Numbers.{holds_in, OrderedAt, order_in}
use Rattle.symbols_numbers.proofs.Leaves.{word_same, word_other}

module _ (T L H : List ℕ) (m : ℕ) where
  abbrev place : ℕ → ℕ
  place = grouped_place (holds_in H) (result_group_in T L) m

  pub record Ordering (p : ℕ) (O : List ℕ) : Type 0 where
    pub word : (q : ℕ) → q < p → holds_in H q ≡ true → half_in O (place q) ≡ q

  pub ordering_none : (O : List ℕ) → Ordering 0 O
  ordering_none O = record { word = λ q h t. absurd (omega arith) }

  module _ (p : ℕ) (O : List ℕ) (w : Ordering p O) where
    put_at : p < m → 2 * place p + 2 ≤ length O → holds_in H p ≡ true → (q : ℕ) → q < p + 1 → holds_in H q ≡ true
        → half_in (spliced O (2 * place p) (encoded Big 2 p)) (place q) ≡ q
    put_at h f t q l s = by-lt q p
        (λ u. word_other O (place p) p f (place q) (λ e. absurd (omega (arith, place_once (holds_in H) (result_group_in T L) m q p (omega arith) h s t e))) ∙ w.word q u s)
        (λ u. let e : q ≡ p = omega arith in rw e (word_same O (place p) p f))

    kept_at : holds_in H p ≡ false → (q : ℕ) → q < p + 1 → holds_in H q ≡ true → half_in O (place q) ≡ q
    kept_at f q l s = by-lt q p
        (λ u. w.word q u s)
        (λ u. let e : q ≡ p = omega arith in both s (ap (holds_in H) e ∙ f))

    pub ordering_next : (x next : ℕ) (O' : List ℕ) → x ≡ place p → p < m → (holds_in H p ≡ true → 2 * x + 2 ≤ length O) → OrderedAt H p x next O O' → Ordering (p + 1) O'
    ordering_next x next O' e h f o = by-test (holds_in H p)
        (λ t. record { word = λ q l s. rw (o.put t, e) (put_at h (rw e at (f t)) t q l s) })
        (λ t. record { word = λ q l s. rw (o.kept t) (kept_at t q l s) })

  pub ordering_end : (p : ℕ) (O : List ℕ) → Ordering p O → m ≤ p → halves_in O (length (order_in T L H m RESULT_GROUPS)) ≡ order_in T L H m RESULT_GROUPS
  unfolding halves_in order_in
  ordering_end p O w h = select_all_is (order_in T L H m RESULT_GROUPS) (half_in O) 0 (λ j l.
      let r = stands_at (holds_in H) (result_group_in T L) m RESULT_GROUPS j l in
      let e : half_in O (place r.index) ≡ r.index = w.word r.index (omega (arith, r.small)) r.kept in
      ap (half_in O) (sym r.there) ∙ e ∙ sym r.is)
