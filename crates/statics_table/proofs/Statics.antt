-- Laws of statics and their names: how long the tail of a count is, how long the written names are, and that the last namesake has the count. Assumes
-- nothing.
use mathlib.Core.Path.{◌≡◌, refl, sym, ap, ◌∙◌}
use mathlib.Core.Bool.{true, false}
use mathlib.Core.List.{List, [], ◌∷◌, ◌++◌}
use Prim.Native.Nat.{ℕ, zero, suc, ◌+◌, ◌-◌, ◌/◌, ◌≤◌, ◌<◌}
use native.Mathlib.Omega.{arith}
use lib.ListN.{length, length-append}
use lib.Dec.{ltb}
use borrow.Author.Tests.{ne_eqb, lt-ltb, ltb-true}
use Rattle.base_lists.specs.Ranges.{count, past_last}
use Rattle.base_lists.proofs.Ranges.{by-test, by-lt, and_parts, count_same, count_le, count_zero, count_yes}
use Rattle.base_lists.specs.Strings.{same, name_at}
use Rattle.base_lists.proofs.Strings.{same_true}
use Rattle.base_scope.specs.Text.{text}
use Rattle.base_text.specs.Decimals.{digits_text, decimal_text}
use Rattle.base_text.proofs.Decimals.{digits_last, digits_next}
use Rattle.statics_table.specs.declared.Static.{Static}
use Rattle.statics_table.specs.Statics.{stored_name, count_tail, written_length, names_length, is_namesake, namesakes}
use Rattle.statics_table.specs.Table.{Numbered}

-- ---- the tail of a count

one_digit : (k n : ℕ) → n < 10 → length (digits_text k n) ≡ 1
one_digit k n h = rw (digits_last k n h)

more_digits : (k n m : ℕ) → 10 ≤ n → length (digits_text k (n / 10)) ≡ m → length (digits_text (k + 1) n) ≡ m + 1
more_digits k n m h e =
    let p : k + 1 - 1 ≡ k = omega arith in
    rw (digits_next (k + 1) n (omega arith) h, length-append, p, e)

pub tail_none : length (count_tail 0) ≡ 0
unfolding count_tail
tail_none = refl

tail_some : (n m : ℕ) → 0 < n → length (digits_text 9 n) ≡ m → length (count_tail n) ≡ m + 1
unfolding count_tail decimal_text text
tail_some n m h e = rw (ne_eqb n 0 (λ z. absurd (omega arith)), e) (omega arith)

pub tail_1 : (n : ℕ) → 0 < n → n < 10 → length (count_tail n) ≡ 2
tail_1 n h l = tail_some n 1 h (one_digit 9 n l)

pub tail_2 : (n : ℕ) → 10 ≤ n → n < 100 → length (count_tail n) ≡ 3
tail_2 n h l = tail_some n 2 (omega arith) (more_digits 8 n 1 h (one_digit 8 (n / 10) (omega arith)))

pub tail_3 : (n : ℕ) → 100 ≤ n → n < 1000 → length (count_tail n) ≡ 4
tail_3 n h l =
    tail_some n 3 (omega arith) (more_digits 8 n 2 (omega arith) (more_digits 7 (n / 10) 1 (omega arith) (one_digit 7 (n / 10 / 10) (omega arith))))

pub tail_4 : (n : ℕ) → 1000 ≤ n → n < 10000 → length (count_tail n) ≡ 5
tail_4 n h l =
    tail_some n 4 (omega arith)
    (more_digits 8 n 3 (omega arith)
    (more_digits 7 (n / 10) 2 (omega arith)
    (more_digits 6 (n / 10 / 10) 1 (omega arith)
    (one_digit 6 (n / 10 / 10 / 10) (omega arith)))))

-- ---- written names

pub written_is : (head : ℕ) (s : Static) (t : ℕ) → t ≡ length (count_tail s.number) → head + s.length + t + 1 ≡ written_length head s
unfolding written_length
written_is head s t e = rw e

pub names_none : (head : ℕ) → names_length head [] ≡ 0
unfolding names_length
names_none head = refl

pub names_append : (head : ℕ) (l m : List Static) → names_length head (l ++ m) ≡ names_length head l + names_length head m
unfolding names_length
names_append head [] m = omega arith
names_append head (s ∷ l) m = rw (names_append head l m) (omega arith)

names_single : (head : ℕ) (s : Static) → names_length head (s ∷ []) ≡ written_length head s
unfolding names_length
names_single head s = omega arith

pub names_one : (head : ℕ) (l : List Static) (s : Static) → names_length head (l ++ (s ∷ [])) ≡ names_length head l + written_length head s
names_one head l s = names_append head l (s ∷ []) ∙ ap (λ (x : ℕ). names_length head l + x) (names_single head s)

-- ---- namesakes

module _ (C name : List ℕ) (s : Static) where
  pub namesake_uncounted : s.number ≡ 0 → false ≡ is_namesake C name s
  unfolding is_namesake
  namesake_uncounted e = rw e

  pub namesake_counted : (s.number ≡ 0 → ⊥) → same (name_at C s.start) name ≡ is_namesake C name s
  unfolding is_namesake stored_name
  namesake_counted e = rw (lt-ltb 0 s.number (omega arith))

  pub namesake_told : is_namesake C name s ≡ true → (0 < s.number) × (stored_name C s ≡ name)
  unfolding is_namesake
  namesake_told t =
      let r = and_parts (ltb 0 s.number) _ t in
      (ltb-true _ _ r.0, same_true _ _ r.1)

module _ (C name : List ℕ) (f : ℕ → Static) where
  pub namesakes_le : (n : ℕ) → namesakes C name f n ≤ n
  unfolding namesakes
  namesakes_le n = count_le (λ k. is_namesake C name (f k)) n

  namesakes_zero : namesakes C name f 0 ≡ 0
  unfolding namesakes
  namesakes_zero = count_zero (λ k. is_namesake C name (f k))

  namesakes_next : (n : ℕ) → is_namesake C name (f n) ≡ true → namesakes C name f (n + 1) ≡ namesakes C name f n + 1
  unfolding namesakes
  namesakes_next n t = count_yes (λ k. is_namesake C name (f k)) n t

-- statics that are the same below n
pub namesakes_same : (C name : List ℕ) (f g : ℕ → Static) (n : ℕ) → ((k : ℕ) → k < n → f k ≡ g k) → namesakes C name f n ≡ namesakes C name g n
unfolding namesakes
namesakes_same C name f g n e = count_same (λ k. is_namesake C name (f k)) (λ k. is_namesake C name (g k)) n (λ k h. ap (is_namesake C name) (e k h))

-- no namesake below n
past_none : (C name : List ℕ) (f : ℕ → Static) (n : ℕ) → past_last (λ k. is_namesake C name (f k)) n ≡ 0 → namesakes C name f n ≡ 0
unfolding namesakes past_last count
past_none C name f zero e = refl
past_none C name f (suc n) e = by-test (is_namesake C name (f n))
    (λ t. let z : suc n ≡ 0 = rw t at e in absurd (omega arith))
    (λ t. rw t (past_none C name f n (rw t at e)))

-- the last namesake below n is the last that is counted
past_some : (C name : List ℕ) (f : ℕ → Static) (n m : ℕ) → past_last (λ k. is_namesake C name (f k)) n ≡ suc m
    → (m < n) × (is_namesake C name (f m) ≡ true) × (namesakes C name f n ≡ namesakes C name f m + 1)
unfolding namesakes past_last count
past_some C name f zero m e = absurd (omega arith)
past_some C name f (suc n) m e = by-test (is_namesake C name (f n))
    (λ t.
    let z : suc n ≡ suc m = rw t at e in
    let y : m ≡ n = omega arith in
    rw y (omega arith, t, rw t))
    (λ t. let r = past_some C name f n m (rw t at e) in (omega (arith, r.0), r.1, rw t r.2))

module _ (C name : List ℕ) (f : ℕ → Static) (n past : ℕ) (w : Numbered C f n) (is : past ≡ past_last (λ k. is_namesake C name (f k)) n) where
  pub number_first : past ≡ 0 → 1 ≡ namesakes C name f n + 1
  number_first e = rw (past_none C name f n (sym is ∙ e))

  -- the last namesake has the count of those before it and itself
  pub number_after : (s : Static) → (past ≡ 0 → ⊥) → s ≡ f (past - 1) → s.number ≡ namesakes C name f n
  number_after s d e =
      let z : past ≡ suc (past - 1) = omega arith in
      let r = past_some C name f n (past - 1) (sym is ∙ z) in
      let t = namesake_told C name (f (past - 1)) r.1 in
      let k : (f (past - 1)).number ≡ namesakes C (stored_name C (f (past - 1))) f (past - 1) + 1 = w.each (past - 1) r.0 t.0 in
      ap (λ (x : Static). x.number) e ∙ k ∙ ap (λ (x : List ℕ). namesakes C x f (past - 1) + 1) t.1 ∙ sym r.2

-- one static more: those before it keep their counts
pub numbered_next : (C : List ℕ) (f g : ℕ → Static) (n : ℕ) → Numbered C f n → ((k : ℕ) → k < n → g k ≡ f k)
    → (0 < (g n).number → (g n).number ≡ namesakes C (stored_name C (g n)) f n + 1) → Numbered C g (n + 1)
numbered_next C f g n w agree new = record {
  each = λ k h. by-lt k n
      (λ l p.
      let e : g k ≡ f k = agree k l in
      let q : 0 < (f k).number = rw e at p in
      let r : (f k).number ≡ namesakes C (stored_name C (f k)) f k + 1 = w.each k l q in
      let m : namesakes C (stored_name C (f k)) g k ≡ namesakes C (stored_name C (f k)) f k =
      namesakes_same C (stored_name C (f k)) g f k (λ j u. agree j (omega arith)) in
      rw (e, m) r)
      (λ l p.
      let e : k ≡ n = omega arith in
      let q : 0 < (g n).number = rw e at p in
      rw (e, namesakes_same C (stored_name C (g n)) g f n agree) (new q));
}
