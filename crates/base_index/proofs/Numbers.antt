-- The number of a string's bytes, whole and in parts: bytes one by one, the bytes of a word below a place and above it, and masks and shifts that take them out.
-- Assumes nothing.
use Rattle.std.proofs.Common.{◌≡◌, ℕ, zero, suc, ◌+◌, ◌-◌, ◌*◌, ◌/◌, ◌%◌, ◌^◌, ◌<◌, ◌≤◌, List, length, get_or, sym, refl, ap, ◌∙◌, add-zero, mod-eq_of_lt, mul_assoc, mul_comm, arith, pow_pos, pow-add, shl_exact, shr-shr}
use native.Mathlib.Nat.{pow-succ', mul-add-mod_self_left, mul-add-div, div-eq_of_lt}
use lib.Bits.{bit_and, and_mask}
use Rattle.base_fields.specs.declared.ByteOrder.TheVariants.{Little}
use Rattle.base_fields.specs.Numbers.{number}
use Rattle.base_fields.proofs.Numbers.{little_4}
use Rattle.base_names.specs.Words.{word_at}

-- the same bytes make the same number
pub word_ext : (s t : List ℕ) (a b n : ℕ) → ((i : ℕ) → i < n → get_or s (a + i) 0 ≡ get_or t (b + i) 0) → word_at s a n ≡ word_at t b n
unfolding word_at
word_ext s t a b zero f = refl
word_ext s t a b (suc n) f =
    let e : a + 0 ≡ a = omega arith in
    let g : b + 0 ≡ b = omega arith in
    let here : get_or s a 0 ≡ get_or t b 0 = sym (ap (λ (i : ℕ). get_or s i 0) e) ∙ f 0 (omega arith) ∙ ap (λ (i : ℕ). get_or t i 0) g in
    let next : word_at s (a + 1) n ≡ word_at t (b + 1) n =
    word_ext s t (a + 1) (b + 1) n (λ i h.
    let u : a + 1 + i ≡ a + (i + 1) = omega arith in
    let v : b + (i + 1) ≡ b + 1 + i = omega arith in
    ap (λ (k : ℕ). get_or s k 0) u ∙ f (i + 1) (omega arith) ∙ ap (λ (k : ℕ). get_or t k 0) v) in
    omega (arith, here, next)

-- a number in two parts
pub word_split : (s : List ℕ) (a m n : ℕ) → word_at s a (m + n) ≡ word_at s a m + 256 ^ m * word_at s (a + m) n
unfolding word_at
word_split s a zero n =
    let e : 0 + n ≡ n = omega arith in
    let f : a ≡ a + 0 = omega arith in
    ap (word_at s a) e ∙ ap (λ (k : ℕ). word_at s k n) f ∙ omega arith
word_split s a (suc m) n =
    let e : suc m + n ≡ suc (m + n) = omega arith in
    let f : a + 1 + m ≡ a + suc m = omega arith in
    let w = word_at s (a + suc m) n in
    let next : word_at s (a + 1) (m + n) ≡ word_at s (a + 1) m + 256 ^ m * w = word_split s (a + 1) m n ∙ ap (λ (k : ℕ). word_at s (a + 1) m + 256 ^ m * word_at s k n) f in
    let weight : 256 ^ suc m * w ≡ 256 * (256 ^ m * w) = ap (λ (k : ℕ). k * w) (pow-succ' 256 m) ∙ mul_assoc 256 (256 ^ m) w in
    ap (word_at s a) e ∙ omega (arith, next, weight)

pub word_none : (s : List ℕ) (a n : ℕ) → n ≤ a → word_at s a (n - a) ≡ 0
unfolding word_at
word_none s a n h =
    let e : n - a ≡ 0 = omega arith in
    ap (word_at s a) e

-- one byte more before the n bytes at i
pub word_before : (s : List ℕ) (i n : ℕ) → i < n → word_at s (i + 1) (n - (i + 1)) * 256 + get_or s i 0 ≡ word_at s i (n - i)
unfolding word_at
word_before s i n h =
    let e : n - i ≡ suc (n - (i + 1)) = omega arith in
    sym (ap (word_at s i) e)

-- ---- parts of a word

-- n bytes have 8 n bits
pub byte_bits : (n : ℕ) → 256 ^ n ≡ 2 ^ (8 * n)
byte_bits zero = refl
byte_bits (suc n) =
    let e : 8 * suc n ≡ 8 * n + 8 = omega arith in
    sym (ap (λ (k : ℕ). 2 ^ k) e ∙ pow-add 2 (8 * n) 8 ∙ ap (λ (k : ℕ). k * 256) (sym (byte_bits n)) ∙ mul_comm (256 ^ n) 256 ∙ sym (pow-succ' 256 n))

-- the least bit of n bytes is there
pub bit_low : (n : ℕ) → n < 8 → 1 ≤ 1 * 2 ^ (8 * n) % 2 ^ 64
bit_low n h =
    let e : 1 * 2 ^ (8 * n) % 2 ^ 64 ≡ 1 * 2 ^ (8 * n) = shl_exact 1 (8 * n) 64 (omega arith) (omega arith) in
    omega (arith, e, pow_pos (8 * n))

-- a mask of n bytes, shifted into its place
pub low_mask : (w n : ℕ) → n < 8 → bit_and w (1 * 2 ^ (8 * n) % 2 ^ 64 - 1) ≡ w % 256 ^ n
low_mask w n h =
    let e : 1 * 2 ^ (8 * n) % 2 ^ 64 ≡ 2 ^ (8 * n) = shl_exact 1 (8 * n) 64 (omega arith) (omega arith) ∙ omega arith in
    ap (λ (k : ℕ). bit_and w (k - 1)) e ∙ and_mask w (8 * n) ∙ ap (λ (k : ℕ). w % k) (sym (byte_bits n))

module _ (s : List ℕ) (bytes : (i : ℕ) → get_or s i 0 < 256) where
  pub word_bound : (a n : ℕ) → word_at s a n < 256 ^ n
  unfolding word_at
  word_bound a zero = omega arith
  word_bound a (suc n) = omega (arith, word_bound (a + 1) n, bytes a, pow-succ' 256 n)

  -- the first m bytes of a word, and the others
  pub word_low : (a m n : ℕ) → word_at s a (m + n) % 256 ^ m ≡ word_at s a m
  word_low a m n =
      let v = word_at s (a + m) n in
      let e : word_at s a (m + n) ≡ 256 ^ m * v + word_at s a m = word_split s a m n ∙ omega arith in
      ap (λ (k : ℕ). k % 256 ^ m) e ∙ mul-add-mod_self_left (256 ^ m) v (word_at s a m) ∙ mod-eq_of_lt (word_bound a m)

  pub word_high : (a m n : ℕ) → word_at s a (m + n) / 256 ^ m ≡ word_at s (a + m) n
  word_high a m n =
      let v = word_at s (a + m) n in
      let l = word_bound a m in
      let e : word_at s a (m + n) ≡ 256 ^ m * v + word_at s a m = word_split s a m n ∙ omega arith in
      ap (λ (k : ℕ). k / 256 ^ m) e ∙ mul-add-div (omega (arith, l)) v (word_at s a m) ∙ ap (λ (k : ℕ). v + k) (div-eq_of_lt l) ∙ add-zero v

  -- the last bytes of n, which words leave, are the upper ones of the last eight
  pub upper_part : (n w : ℕ) → 8 ≤ n → w ≡ word_at s (n - 8) 8 → w / 2 ^ (56 - 8 * (n % 8)) / 2 ^ 8 ≡ word_at s (n / 8 * 8) (n % 8)
  upper_part n w h is =
      let r = n % 8 in
      let m = 8 - r in
      let e : 56 - 8 * r + 8 ≡ 8 * m = omega arith in
      let f : 8 ≡ m + r = omega arith in
      let g : n - 8 + m ≡ n / 8 * 8 = omega arith in
      shr-shr w (56 - 8 * r) 8
      ∙ ap (λ (k : ℕ). w / k) (ap (λ (k : ℕ). 2 ^ k) e ∙ sym (byte_bits m))
      ∙ ap (λ (k : ℕ). k / 256 ^ m) (is ∙ ap (word_at s (n - 8)) f)
      ∙ word_high (n - 8) m r
      ∙ ap (λ (k : ℕ). word_at s k r) g

  -- the others of n bytes, four at least, are the upper ones of the last four
  pub upper_four : (n first last : ℕ) → 4 ≤ n → n < 8 → first ≡ word_at s 0 4 → last ≡ word_at s (n - 4) 4 → first + last / 2 ^ (8 * (8 - n)) * 4294967296 ≡ word_at s 0 n
  upper_four n first last l h low high =
      let m = 8 - n in
      let k = n - 4 in
      let e : 4 ≡ m + k = omega arith in
      let f : n - 4 + m ≡ 4 = omega arith in
      let g : n ≡ 4 + k = omega arith in
      let up : last / 2 ^ (8 * m) ≡ word_at s 4 k =
      ap (λ (x : ℕ). last / x) (sym (byte_bits m)) ∙ ap (λ (x : ℕ). x / 256 ^ m) (high ∙ ap (word_at s (n - 4)) e) ∙ word_high (n - 4) m k ∙ ap (λ (x : ℕ). word_at s x k) f in
      let split : word_at s 0 n ≡ word_at s 0 4 + 256 ^ 4 * word_at s 4 k = ap (word_at s 0) g ∙ word_split s 0 4 k in
      omega (arith, up, split, low)

-- four bytes are a number of four
pub word_four : (t : List ℕ) (a : ℕ) → a + 4 ≤ length t → number Little 4 t a ≡ word_at t a 4
unfolding word_at
word_four t a h =
    let e2 : a + 1 + 1 ≡ a + 2 = omega arith in
    let e3 : a + 2 + 1 ≡ a + 3 = omega arith in
    rw (little_4 t a h, e2, e3) (omega arith)
