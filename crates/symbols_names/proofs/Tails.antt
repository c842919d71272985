-- Laws of a stored name and the tail of its count: its bytes, and when two are equal. A digit is the last one of the number without those behind it. Assumes nothing.
use Prim.Native.Nat.{ℕ, zero, suc, ◌+◌, ◌-◌, ◌/◌, ◌%◌, ◌≤◌, ◌<◌}
use mathlib.Core.Path.{◌≡◌, refl, sym, ap, ◌∙◌}
use mathlib.Core.Bool.{Bool, true, false}
use mathlib.Core.List.{List, [], ◌∷◌, ◌++◌, append-nil}
use native.Mathlib.Omega.{arith}
use lib.ListN.{length, take, drop, get_or, length-append, get_or-append}
use lib.Seq.{get_or_at, get_or-append-add, take_at}
use lib.Dec.{eqb}
use borrow.Author.Tests.{ne_eqb, lt-ltb, le-ltb, eqb-true, eqb-false}
use Rattle.base_lists.specs.Strings.{same}
use Rattle.base_lists.proofs.Ranges.{by-test, by-lt}
use Rattle.base_lists.proofs.Strings.{same_true, same_false, same_eq, same_ne, same_next, same_not}
use Rattle.base_scope.specs.Limits.{STATIC_LIMIT}
use Rattle.base_scope.specs.Text.{text}
use Rattle.base_text.specs.Decimals.{digits_text, decimal_text}
use Rattle.statics_table.specs.Statics.{count_tail}
use Rattle.symbols_names.specs.declared.NameKind.{NameKind}
use Rattle.symbols_names.specs.Names.{kind_of, without_last}

-- ---- digits

-- a turn of the loop that takes digits off
pub without_next : (k n : ℕ) → 0 < k → without_last k n ≡ without_last (k - 1) (n / 10)
unfolding without_last
without_next zero n h = absurd (omega arith)
without_next (suc k) n h =
    let e : suc k - 1 ≡ k = omega arith in
    rw e

pub without_none : (k n : ℕ) → k ≡ 0 → without_last k n ≡ n
unfolding without_last
without_none k n e = rw e

one_at : (n i : ℕ) → n < 10 → i < 1 → get_or ((48 + n) ∷ []) i 0 ≡ 48 + without_last (1 - 1 - i) n % 10
one_at n zero h l = rw (without_none (1 - 1 - 0) n (omega arith)) (omega arith)
one_at n (suc i) h l = absurd (omega arith)

-- the digits d of n / 10 and the last one of n
more_at : (n i : ℕ) (d : List ℕ) → (i < length d → get_or d i 0 ≡ 48 + without_last (length d - 1 - i) (n / 10) % 10) → i < length (d ++ ((48 + n % 10) ∷ []))
    → get_or (d ++ ((48 + n % 10) ∷ [])) i 0 ≡ 48 + without_last (length (d ++ ((48 + n % 10) ∷ [])) - 1 - i) n % 10
more_at n i d front l =
    let x = (48 + n % 10) ∷ [] in
    let e : length (d ++ x) ≡ length d + 1 = length-append d x in
    by-lt i (length d)
    (λ h.
    let w : without_last (length (d ++ x) - 1 - i) n ≡ without_last (length (d ++ x) - 1 - i - 1) (n / 10) = without_next (length (d ++ x) - 1 - i) n (omega arith) in
    let m : length (d ++ x) - 1 - i - 1 ≡ length d - 1 - i = omega arith in
    get_or-append d x 0 i h ∙ front h ∙ sym (ap (λ (j : ℕ). 48 + j % 10) (w ∙ ap (λ (j : ℕ). without_last j (n / 10)) m)))
    (λ h.
    let w : without_last (length (d ++ x) - 1 - i) n ≡ n = without_none (length (d ++ x) - 1 - i) n (omega arith) in
    get_or_at d (48 + n % 10) [] 0 i (omega arith) ∙ sym (ap (λ (j : ℕ). 48 + j % 10) w))

-- a number of at most k + 1 digits
digit_at : (k n i : ℕ) → without_last k n < 10 → i < length (digits_text k n) → get_or (digits_text k n) i 0 ≡ 48 + without_last (length (digits_text k n) - 1 - i) n % 10
unfolding digits_text without_last
digit_at zero n i h l = one_at n i h l
digit_at (suc k) n i h l = by-lt n 10
    (λ u.
    let m : i < length ((48 + n) ∷ []) = rw (lt-ltb n 10 u) at l in
    rw (lt-ltb n 10 u) (one_at n i u m))
    (λ u.
    let d = digits_text k (n / 10) in
    let x = (48 + n % 10) ∷ [] in
    let m : i < length (d ++ x) = rw (le-ltb n 10 u) at l in
    rw (le-ltb n 10 u) (more_at n i d (digit_at k (n / 10) i h) m))

-- ---- the tail of a count

tail_some : (n : ℕ) → (n ≡ 0 → ⊥) → count_tail n ≡ 58 ∷ digits_text 9 n
unfolding count_tail decimal_text text
tail_some n d = rw (ne_eqb n 0 d)

tail_zero : count_tail 0 ≡ []
unfolding count_tail
tail_zero = refl

tail_has : (n i : ℕ) → i < length (count_tail n) → n ≡ 0 → ⊥
tail_has n i l e =
    let z : length (count_tail n) ≡ 0 = rw (e, tail_zero) in
    absurd (omega arith)

few_digits : (n : ℕ) → n ≤ STATIC_LIMIT → without_last 9 n < 10
unfolding without_last
few_digits n h = omega arith

pub tail_colon : (n i : ℕ) → i ≡ 0 → i < length (count_tail n) → 58 ≡ get_or (count_tail n) i 0
tail_colon n i z h = rw (tail_some n (tail_has n i h), z)

digit_behind : (d : List ℕ) (n i : ℕ) → 0 < i → i < length (58 ∷ d) → ((j : ℕ) → j < length d → get_or d j 0 ≡ 48 + without_last (length d - 1 - j) n % 10)
    → 48 + without_last (length (58 ∷ d) - 1 - i) n % 10 ≡ get_or (58 ∷ d) i 0
digit_behind d n zero h l at = absurd (omega arith)
digit_behind d n (suc j) h l at =
    let e : length (58 ∷ d) - 1 - suc j ≡ length d - 1 - j = omega arith in
    rw e (sym (at j (omega arith)))

-- m is the length of the tail
pub tail_digit : (n i m : ℕ) → m ≡ length (count_tail n) → n ≤ STATIC_LIMIT → (i ≡ 0 → ⊥) → i < length (count_tail n) → 48 + without_last (m - 1 - i) n % 10 ≡ get_or (count_tail n) i 0
tail_digit n i m is few d l =
    let e = tail_some n (tail_has n i l) in
    let u : i < length (58 ∷ digits_text 9 n) = rw e at l in
    rw (is, e) (digit_behind (digits_text 9 n) n i (omega arith) u (λ j. digit_at 9 n j (few_digits n few)))

-- ---- a stored name and a tail

pub joined_long : (a : List ℕ) (n t : ℕ) → t ≡ length (count_tail n) → length a + t ≡ length (a ++ count_tail n)
joined_long a n t e = rw (e, length-append)

module _ (a t : List ℕ) (i : ℕ) where
  pub joined_front : i < length a → get_or a i 0 ≡ get_or (a ++ t) i 0
  joined_front h = sym (get_or-append a t 0 i h)

  pub joined_behind : length a ≤ i → get_or t (i - length a) 0 ≡ get_or (a ++ t) i 0
  joined_behind h =
      let e : length a + (i - length a) ≡ i = omega arith in
      sym (get_or-append-add a t (i - length a) 0) ∙ ap (λ (j : ℕ). get_or (a ++ t) j 0) e

  pub joined_rest : i < length (a ++ t) → length a ≤ i → i - length a < length t
  joined_rest l h = omega (arith, length-append a t)

-- r is whether two names have one byte at i
module _ (x y : List ℕ) (i : ℕ) (h : i < length x) (g : i < length y) (r : Bool) (told : r ≡ eqb (get_or x i 0) (get_or y i 0)) where
  pub bytes_next : r ≡ true → same (drop i x) (drop i y) ≡ same (drop (i + 1) x) (drop (i + 1) y)
  bytes_next t = same_next x y i h g (eqb-true _ _ (sym told ∙ t))

  pub bytes_not : r ≡ false → same (drop i x) (drop i y) ≡ false
  bytes_not f = same_not x y i h g (eqb-false _ _ (sym told ∙ f))

front_same : (a b t : List ℕ) → a ++ t ≡ b ++ t → a ≡ b
front_same a b t e =
    let m : length a ≡ length b = omega (arith, length-append a t, length-append b t, ap length e) in
    sym (take_at a t (length a) refl) ∙ ap (take (length a)) e ∙ take_at b t (length a) (sym m)

-- behind one tail the stored names decide
pub same_front : (a b t : List ℕ) → same a b ≡ same (a ++ t) (b ++ t)
same_front a b t = by-test (same a b)
    (λ y. y ∙ sym (same_eq _ _ (ap (λ (x : List ℕ). x ++ t) (same_true a b y))))
    (λ n. n ∙ sym (same_ne _ _ (λ e. same_false a b n (front_same a b t e))))

-- names w and z of those parts
pub same_stored : (w z a b : List ℕ) (m n : ℕ) → a ++ count_tail m ≡ w → b ++ count_tail n ≡ z → m ≡ n → same a b ≡ same w z
same_stored w z a b m n e f is =
    let g : b ++ count_tail m ≡ z = ap (λ (k : ℕ). b ++ count_tail k) is ∙ f in
    same_front a b (count_tail m) ∙ rw (e, g)

-- without a count the stored name is all
pub joined_none : (a : List ℕ) (n : ℕ) → n ≡ 0 → a ≡ a ++ count_tail n
joined_none a n e = rw (e, tail_zero, append-nil a)

-- ---- a name with a count has a colon, `_gp_disp` has none

no_colon : (k : ℕ) → get_or (text "_gp_disp") k 0 ≡ 58 → ⊥
unfolding text
no_colon zero e = absurd (omega arith)
no_colon (suc zero) e = absurd (omega arith)
no_colon (suc (suc zero)) e = absurd (omega arith)
no_colon (suc (suc (suc zero))) e = absurd (omega arith)
no_colon (suc (suc (suc (suc zero)))) e = absurd (omega arith)
no_colon (suc (suc (suc (suc (suc zero))))) e = absurd (omega arith)
no_colon (suc (suc (suc (suc (suc (suc zero)))))) e = absurd (omega arith)
no_colon (suc (suc (suc (suc (suc (suc (suc zero))))))) e = absurd (omega arith)
no_colon (suc (suc (suc (suc (suc (suc (suc (suc k)))))))) e = absurd (omega arith)

-- a name w of those parts
module _ (w a : List ℕ) (n : ℕ) (is : a ++ count_tail n ≡ w) where
  gp_counted : (n ≡ 0 → ⊥) → false ≡ same w (text "_gp_disp")
  gp_counted d =
      let c : get_or (a ++ count_tail n) (length a) 0 ≡ 58 = rw (tail_some n d) (get_or_at a 58 (digits_text 9 n) 0 (length a) refl) in
      sym (same_ne _ _ (λ e. no_colon (length a) (ap (λ (x : List ℕ). get_or x (length a) 0) (sym (is ∙ e)) ∙ c)))

  named_counted : (n ≡ 0 → ⊥) → false ≡ eqb (length w) 0
  named_counted d =
      let l : length (count_tail n) ≡ length (58 ∷ digits_text 9 n) = ap length (tail_some n d) in
      sym (ne_eqb (length w) 0 (λ z. omega (arith, l, z, length-append a (count_tail n), ap length is)))

  -- so its kind is told
  pub kind_counted : (n ≡ 0 → ⊥) → ◌≡◌ {A = NameKind} (record { unnamed = false; gp_disp = false }) (kind_of w)
  unfolding kind_of
  kind_counted d =
      let u : false ≡ eqb (length w) 0 = named_counted d in
      let g : false ≡ same w (text "_gp_disp") = gp_counted d in
      λ k. record { unnamed = u k; gp_disp = g k }
