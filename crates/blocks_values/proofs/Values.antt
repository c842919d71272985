-- The laws of values: a test of every byte, numbers in digits, and the three parts of `label size align8`. At most n digits write a number below
-- 10 ^ n, and more, with no leading zero, do not; so a number up to a limit has few digits. Assumes nothing.
use Prim.Native.Nat.{ℕ, suc, ◌+◌, ◌-◌, ◌*◌, ◌^◌, ◌≤◌, ◌<◌}
use mathlib.Core.Path.{◌≡◌, refl, sym, ap, ◌∙◌}
use mathlib.Core.Bool.{Bool, true, false, not, ◌&&◌, ◌||◌, and-true}
use mathlib.Core.List.{List, [], ◌∷◌, ◌++◌}
use native.Mathlib.Nat.{sub-zero, mul-one, mul_assoc, mul-le-mul_right, pow-le-pow_right, pow-succ'}
use native.Mathlib.Numerals.{add-one}
use native.Mathlib.Omega.{arith}
use lib.ListN.{length, take, drop, get_or, take-append-drop, drop_of_length-le}
use lib.Seq.{length-take-le, get_or-take}
use lib.Dec.{eqb, ltb, leb}
use borrow.Author.Tests.{eq-eqb, ne_eqb, eqb-true, eqb-false, lt-ltb, ltb-true, leb-true, lt-leb, not-true, not-false}
use Rattle.base_lists.specs.Ranges.{first, IsFirst}
use Rattle.base_lists.proofs.Ranges.{and_parts, by-test, by-lt, first_none, none_first, first_is, first_high}
use Rattle.base_lists.proofs.Windows.{drop_next}
use Rattle.base_names.specs.Words.{byte_at, first_byte}
use Rattle.base_scope.specs.Limits.{NUMBER_LIMIT, ALIGN8_LIMIT}
use Rattle.base_text.specs.Decimals.{decimal_from, decimal}
use Rattle.base_lists.proofs.Windows.{tail_part}
use Rattle.blocks_values.specs.Values.{every, is_digit, is_hex_digit, is_number, number_sound, space_at, space_in, label_in, after_label, size_in, align_in, span_sound, line_sound}
use Rattle.blocks_values.specs.Parts.{line_parts}

-- ---- a test of every byte

module _ (p : ℕ → Bool) (v : List ℕ) where
  pub every_true : every p v ≡ true → (i : ℕ) → i < length v → p (get_or v i 0) ≡ true
  unfolding every
  every_true t i h = not-false _ (none_first (λ j. not (p (get_or v j 0))) 0 (length v) i (eqb-true _ _ t) (omega arith) h)

  pub every_all : ((i : ℕ) → i < length v → p (get_or v i 0) ≡ true) → every p v ≡ true
  unfolding every
  every_all all = eq-eqb _ _ (first_none (λ j. not (p (get_or v j 0))) 0 (length v) (omega arith) (λ j l h. ap not (all j h)))

  -- a test that is true exactly when every byte passes
  pub every_is : (b : Bool)
      → (b ≡ true → (i : ℕ) → i < length v → p (get_or v i 0) ≡ true) × (((i : ℕ) → i < length v → p (get_or v i 0) ≡ true) → b ≡ true) → b ≡ every p v
  every_is true h = sym (every_all (h.0 refl))
  every_is false h = by-test (every p v) (λ t. h.1 (every_true t) ∙ sym t) (λ n. sym n)

pub digit_range : (x : ℕ) → is_digit x ≡ true → (48 ≤ x) × (x ≤ 57)
unfolding is_digit
digit_range x t = let r = and_parts (leb 48 x) (leb x 57) t in (leb-true _ _ r.0, leb-true _ _ r.1)

pub hex_digit_lem : (x : ℕ) → is_digit x ≡ true → is_hex_digit x ≡ true
unfolding is_hex_digit
hex_digit_lem x t = rw t

pub hex_letter : (x : ℕ) → is_digit x ≡ false → is_hex_digit x ≡ (leb 97 x && leb x 102)
unfolding is_hex_digit
hex_letter x t = rw t

pub digit_at : (v : List ℕ) (i : ℕ) → every is_digit v ≡ true → i < length v → (48 ≤ get_or v i 0) × (get_or v i 0 ≤ 57)
digit_at v i t h = digit_range (get_or v i 0) (every_true is_digit v t i h)

-- ---- numbers in digits

pub decimal_cons : (n x : ℕ) (v : List ℕ) → decimal_from n (x ∷ v) ≡ decimal_from (n * 10 + (x - 48)) v
unfolding decimal_from
decimal_cons n x v = refl

-- the turns of a loop along v
pub decimal_next : (n : ℕ) (v : List ℕ) (i : ℕ) → i < length v
    → decimal_from n (drop i v) ≡ decimal_from (n * 10 + (get_or v i 0 - 48)) (drop (i + 1) v)
decimal_next n v i h = rw (drop_next v i 0 h, decimal_cons)

pub decimal_end : (n : ℕ) (v : List ℕ) (i : ℕ) → length v ≤ i → decimal_from n (drop i v) ≡ n
unfolding decimal_from
decimal_end n v i h = rw (drop_of_length-le v h)

-- fewer than seven digits write a number below a million, and one digit more one below ten times as much
pub digits_room : (n i : ℕ) → n < 10 ^ i → i < 7 → n < 1000000
digits_room n i h l =
    let g : i ≤ 6 = omega arith in
    let m : 10 ^ i ≤ 10 ^ 6 = pow-le-pow_right (omega arith) g in
    omega arith

pub digits_more : (n i x : ℕ) → n < 10 ^ i → x ≤ 57 → n * 10 + (x - 48) < 10 ^ (i + 1)
digits_more n i x h l = rw add-one (omega arith)

-- what was read so far is multiplied by 10 at each digit
pub decimal_low : (n : ℕ) (v : List ℕ) → n * 10 ^ length v ≤ decimal_from n v
unfolding decimal_from
decimal_low n [] = rw (mul-one n) (omega arith)
decimal_low n (x ∷ v) =
    let m : n * 10 ≤ n * 10 + (x - 48) = omega arith in
    rw (pow-succ', ← mul_assoc) (omega (arith, mul-le-mul_right (10 ^ length v) m, decimal_low (n * 10 + (x - 48)) v))

pub decimal_high : (n : ℕ) (v : List ℕ) → ((i : ℕ) → i < length v → get_or v i 0 ≤ 57) → decimal_from n v < (n + 1) * 10 ^ length v
unfolding decimal_from
decimal_high n [] small = rw (mul-one (n + 1)) (omega arith)
decimal_high n (x ∷ v) small =
    let m : n * 10 + (x - 48) + 1 ≤ (n + 1) * 10 = omega (arith, small 0 (omega arith)) in
    rw (pow-succ', ← mul_assoc)
    (omega (arith, mul-le-mul_right (10 ^ length v) m, decimal_high (n * 10 + (x - 48)) v (λ i h. small (suc i) (omega arith))))

-- ---- what makes a number

module _ (v : List ℕ) where
  pub number_empty : length v ≡ 0 → is_number v ≡ false
  unfolding is_number
  number_empty e = rw e

  pub number_one : length v ≡ 1 → is_number v ≡ every is_digit v
  unfolding is_number
  number_one e = rw e (and-true _)

  pub number_more : 1 < length v → is_number v ≡ (every is_digit v && not (eqb (get_or v 0 0) 48))
  unfolding is_number
  number_more h = rw (lt-ltb 0 (length v) (omega arith), ne_eqb (length v) 1 (omega arith))

  number_parts : is_number v ≡ true
      → (0 < length v) × (every is_digit v ≡ true) × ((eqb (length v) 1 || not (eqb (get_or v 0 0) 48)) ≡ true)
  unfolding is_number
  number_parts t =
      let r = and_parts (ltb 0 (length v)) _ t in
      let s = and_parts (every is_digit v) _ r.1 in
      (ltb-true _ _ r.0, s.0, s.1)

  pub number_long : is_number v ≡ true → 0 < length v
  number_long t = (number_parts t).0

  pub number_digits : is_number v ≡ true → every is_digit v ≡ true
  number_digits t = (number_parts t).1

  -- its first digit is not 0, so it is at least the power of 10 that its length says
  pub number_lead : is_number v ≡ true → 1 < length v → 49 ≤ get_or v 0 0
  number_lead t h =
      let n : is_number v ≡ (every is_digit v && not (eqb (get_or v 0 0) 48)) = number_more h in
      let r = and_parts (every is_digit v) (not (eqb (get_or v 0 0) 48)) (sym n ∙ t) in
      let d = eqb-false (get_or v 0 0) 48 (not-true (eqb (get_or v 0 0) 48) r.1) in
      omega (arith, d, digit_at v 0 r.0 (omega arith))

pub number_low : (v : List ℕ) → is_number v ≡ true → 1 < length v → 10 ^ (length v - 1) ≤ decimal v
unfolding decimal_from
number_low [] t h = absurd (omega arith)
number_low (x ∷ v) t h =
    let l : 49 ≤ x = number_lead (x ∷ v) t h in
    let e : suc (length v) - 1 ≡ length v = omega arith in
    let m : 1 ≤ 0 * 10 + (x - 48) = omega arith in
    rw e (omega (arith, mul-le-mul_right (10 ^ length v) m, decimal_low (0 * 10 + (x - 48)) v))

-- a number below 10 ^ k has at most k digits, and at most k digits write a number below 10 ^ k
pub digits_few : (v : List ℕ) (k : ℕ) → 0 < k → is_number v ≡ true → decimal v < 10 ^ k → length v ≤ k
digits_few v k p t h = by-lt k (length v)
    (λ g.
    let m : 10 ^ k ≤ 10 ^ (length v - 1) = pow-le-pow_right (omega arith) (omega arith) in
    absurd (omega (arith, number_low v t (omega arith))))
    (λ g. g)

pub decimal_small : (v : List ℕ) (k : ℕ) → length v ≤ k → every is_digit v ≡ true → decimal v < 10 ^ k
decimal_small v k h t =
    let m : 10 ^ length v ≤ 10 ^ k = pow-le-pow_right (omega arith) h in
    omega (arith, decimal_high 0 v (λ i l. (digit_at v i t l).1))

-- ---- a number up to a limit

module _ (limit : ℕ) (v : List ℕ) where
  pub sound_not : is_number v ≡ false → number_sound limit v ≡ false
  unfolding number_sound
  sound_not t = rw t

  pub sound_is : is_number v ≡ true → number_sound limit v ≡ leb (decimal v) limit
  unfolding number_sound
  sound_is t = rw t

  pub sound_long : limit ≤ NUMBER_LIMIT → is_number v ≡ true → 7 < length v → number_sound limit v ≡ false
  sound_long l t h = by-lt limit (decimal v)
      (λ g. sound_is t ∙ lt-leb _ _ g)
      (λ g. absurd (omega (arith, digits_few v 7 (omega arith) t (omega arith))))

  pub sound_number : number_sound limit v ≡ true → is_number v ≡ true
  unfolding number_sound
  sound_number t = (and_parts (is_number v) _ t).0

  pub sound_decimal : number_sound limit v ≡ true → decimal v ≤ limit
  unfolding number_sound
  sound_decimal t = leb-true _ _ (and_parts (is_number v) _ t).1

-- ---- the parts of `label size align8`

module _ (v : List ℕ) where
  pub first_space : first_byte v 32 0 ≡ space_in v
  unfolding first_byte byte_at space_in space_at
  first_space = refl

  pub space_high : space_in v ≤ length v
  unfolding space_in
  space_high = first_high (space_at v) 0 (length v) (omega arith)

  space_is : IsFirst (space_at v) 0 (length v) (space_in v)
  unfolding space_in
  space_is = first_is (space_at v) 0 (length v) (omega arith)

  pub space_here : space_in v < length v → get_or v (space_in v) 0 ≡ 32
  unfolding space_at
  space_here h = eqb-true _ _ (space_is.here h)

  pub label_long : length (label_in v) ≡ space_in v
  unfolding label_in
  label_long = length-take-le (space_in v) v space_high

  -- a label has no space
  below_plain : (j : ℕ) → j < space_in v → space_at (label_in v) j ≡ false
  unfolding label_in space_at
  below_plain j h = rw (get_or-take (space_in v) v j 0 h) (space_is.below j (omega arith) h)

  none_plain : first (space_at (label_in v)) 0 (length (label_in v)) ≡ length (label_in v)
  none_plain = first_none (space_at (label_in v)) 0 (length (label_in v)) (omega arith) (λ j l h. below_plain j (rw label_long at h))

  pub label_plain : space_in (label_in v) ≡ length (label_in v)
  unfolding space_in
  label_plain = none_plain

  -- a value with a space is its label, the space and what stands behind
  pub label_split : space_in v < length v → v ≡ label_in v ++ (32 ∷ after_label v)
  unfolding label_in after_label
  label_split h =
      let d : drop (space_in v) v ≡ 32 ∷ drop (space_in v + 1) v = rw (drop_next v (space_in v) 0 h, space_here h) in
      sym (take-append-drop (space_in v) v) ∙ ap (λ (l : List ℕ). take (space_in v) v ++ l) d

  -- with no space there is nothing behind
  pub after_none : length v ≤ space_in v → after_label v ≡ []
  unfolding after_label
  after_none h =
      let g : length v ≤ space_in v + 1 = omega arith in
      drop_of_length-le v g

  pub size_is : size_in v ≡ label_in (after_label v)
  unfolding size_in label_in
  size_is = refl

  pub align_is : align_in v ≡ after_label (after_label v)
  unfolding align_in after_label
  align_is = refl

  -- the parts that the code takes: e is the space, or the end
  pub behind_end : (e : ℕ) → e ≡ length v → take (length v - e) (drop e v) ≡ drop (e + 1) v
  behind_end e l =
      let h : length v ≤ e = omega arith in
      let g : length v ≤ e + 1 = omega arith in
      tail_part v e ∙ drop_of_length-le v h ∙ sym (drop_of_length-le v g)

  pub behind_space : (e : ℕ) → e ≡ space_in v → drop (e + 1) v ≡ after_label v
  unfolding after_label
  behind_space e s = ap (λ (n : ℕ). drop (n + 1) v) s

  pub label_up_to : (e : ℕ) → e ≡ space_in v → take (e - 0) v ≡ label_in v
  unfolding label_in
  label_up_to e s = ap (λ (n : ℕ). take n v) (sub-zero e ∙ s)

  -- the tests of a span and of a section, one after the other
  pub span_none : space_in v ≡ 0 → span_sound v ≡ false
  unfolding span_sound
  span_none e = rw e

  pub span_numbers : (space_in v ≡ 0 → ⊥) → (rest : List ℕ) → rest ≡ after_label v
      → span_sound v ≡ (number_sound NUMBER_LIMIT (label_in rest) && number_sound ALIGN8_LIMIT (after_label rest))
  unfolding span_sound
  span_numbers d rest is = rw (lt-ltb 0 (space_in v) (omega arith), size_is, align_is, is)

  pub section_empty : length v ≡ 0 → line_sound v ≡ true
  unfolding line_sound
  section_empty e = rw e

  pub section_span : (length v ≡ 0 → ⊥) → line_sound v ≡ span_sound v
  unfolding line_sound
  section_span d = rw (ne_eqb _ _ d)

-- what a sound `label size align8` consists of
pub record Parts (v : List ℕ) : Type 0 where
  pub whole : v ≡ label_in v ++ (32 ∷ (size_in v ++ (32 ∷ align_in v)))
  pub labelled : 0 < length (label_in v)
  pub plain : space_in (label_in v) ≡ length (label_in v)
  pub size_digits : every is_digit (size_in v) ≡ true
  pub size_length : length (size_in v) ≤ 7
  pub size_limit : decimal (size_in v) ≤ NUMBER_LIMIT
  pub align_digits : every is_digit (align_in v) ≡ true
  pub align_length : length (align_in v) ≤ 1
  pub align_limit : decimal (align_in v) ≤ ALIGN8_LIMIT

-- what stands behind a label is there only behind a space
after_long : (v : List ℕ) → 0 < length (after_label v) → space_in v < length v
after_long v h = by-lt (space_in v) (length v) (λ g. g) (λ g. let n : 0 < 0 = rw (after_none v g) at h in absurd (omega arith))

pub sound_span : (v : List ℕ) → span_sound v ≡ true → Parts v
unfolding span_sound
sound_span v t =
    let p = and_parts (ltb 0 (space_in v)) _ t in
    let q = and_parts (number_sound NUMBER_LIMIT (size_in v)) _ p.1 in
    let s = sound_number NUMBER_LIMIT (size_in v) q.0 in
    let a = sound_number ALIGN8_LIMIT (align_in v) q.1 in
    let b = sound_decimal NUMBER_LIMIT (size_in v) q.0 in
    let d = sound_decimal ALIGN8_LIMIT (align_in v) q.1 in
    let g : 0 < length (after_label (after_label v)) = rw (← align_is v) (number_long (align_in v) a) in
    let m = after_long (after_label v) g in
    let n = after_long v (omega arith) in
    let w : after_label v ≡ size_in v ++ (32 ∷ align_in v) = rw (size_is v, align_is v) (label_split (after_label v) m) in
    record {
      whole = label_split v n ∙ ap (λ (l : List ℕ). label_in v ++ (32 ∷ l)) w;
      labelled = rw (label_long v) (ltb-true _ _ p.0);
      plain = label_plain v;
      size_digits = number_digits (size_in v) s;
      size_length = digits_few (size_in v) 7 (omega arith) s (omega arith);
      size_limit = b;
      align_digits = number_digits (align_in v) a;
      align_length = digits_few (align_in v) 1 (omega arith) a (omega arith);
      align_limit = d;
    }

-- the parts that the code takes of what stands behind the label: f is its space
module _ (v rest : List ℕ) (f : ℕ) (is : rest ≡ after_label v) (s : f ≡ space_in rest) where
  pub size_up_to : take (f - 0) rest ≡ size_in v
  size_up_to = label_up_to rest f s ∙ ap label_in is ∙ sym (size_is v)

  pub align_behind : drop (f + 1) rest ≡ align_in v
  align_behind = behind_space rest f s ∙ ap after_label is ∙ sym (align_is v)

-- of a sound value, its digits in hand, and what they write
module _ (v : List ℕ) (t : span_sound v ≡ true) where
  pub size_digits : (d : List ℕ) → d ≡ size_in v → (length d ≤ 7) × (every is_digit d ≡ true)
  size_digits d is = let p = sound_span v t in rw is (p.size_length, p.size_digits)

  pub align_digits : (d : List ℕ) → d ≡ align_in v → (length d ≤ 7) × (every is_digit d ≡ true)
  align_digits d is =
      let p = sound_span v t in
      let m : length (align_in v) ≤ 7 = omega (arith, p.align_length) in
      rw is (m, p.align_digits)

  pub parts_read : (e n m : ℕ) → e ≡ space_in v → n ≡ decimal (size_in v) → m ≡ decimal (align_in v)
      → (record { label = e; size = n; align8 = m } ≡ line_parts v) × (e ≤ length v) × (n ≤ NUMBER_LIMIT)
  unfolding line_parts
  parts_read e n m label size align = (
    λ i. record { label = label i; size = size i; align8 = align i },
    omega (arith, space_high v),
    rw size (sound_span v t).size_limit,
  )
