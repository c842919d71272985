-- The laws of a byte x looked for in words: each byte of a word is marked by itself, so a word without marks has no x, and the lowest mark is at the first. The
-- turns of a search byte by byte, and that a name ends at the first zero byte. Assumes nothing.
use Prim.Native.Nat.{ℕ, zero, suc, ◌+◌, ◌-◌, ◌*◌, ◌/◌, ◌%◌, ◌^◌, ◌≤◌, ◌<◌}
use mathlib.Core.Path.{◌≡◌, refl, sym, ap, ◌∙◌}
use mathlib.Core.Bool.{Bool, not, cond}
use mathlib.Core.List.{List}
use native.Mathlib.Omega.{arith}
use native.Mathlib.Nat.{mul-one, mul_assoc}
use lib.Pow.{pow-add}
use lib.ListN.{length, get_or}
use lib.Dec.{eqb}
use lib.Bits.{bit_and, bit_or, bit_xor, and_block, or_block, xor_block, and_le_l, and_le_r, or_lt, xor_lt, xor_self, xor_add_and, shifted_even, shifted_half}
use lib.Count.{count_trailing_zeros, under}
use borrow.Author.Tests.{eqb-true, eqb-false, eq-eqb, ne_eqb, not-false}
use Rattle.base_lists.specs.Ranges.{first_from}
use Rattle.base_lists.specs.Strings.{zero_at, name_end}
use Rattle.base_lists.proofs.Ranges.{by-test, none_first, first_here, first_next, first_end}
use Rattle.base_fields.specs.declared.ByteOrder.TheVariants.{Little}
use Rattle.base_fields.specs.Numbers.{number}
use Rattle.base_fields.proofs.Numbers.{little_4}
use Rattle.base_names.specs.Words.{byte_at, first_byte, word_at, bytes_of, zero_marks, byte_marks}

-- ---- byte by byte

module _ (t : List ℕ) (x : ℕ) where
  pub byte_here : (i : ℕ) → i < length t → get_or t i 0 ≡ x → first_byte t x i ≡ i
  unfolding first_byte byte_at
  byte_here i h e = first_here (byte_at t x) i (length t) h (eq-eqb _ _ e)

  pub byte_next : (i : ℕ) → i < length t → (get_or t i 0 ≡ x → ⊥) → first_byte t x i ≡ first_byte t x (i + 1)
  unfolding first_byte byte_at
  byte_next i h d = first_next (byte_at t x) i (length t) h (ne_eqb _ _ d)

  pub byte_past : (i : ℕ) → length t ≤ i → first_byte t x i ≡ i
  unfolding first_byte
  byte_past i h = first_end (byte_at t x) i (length t) h

pub first_zero : (t : List ℕ) (a : ℕ) → first_byte t 0 a ≡ name_end t a
unfolding first_byte byte_at name_end zero_at
first_zero t a = refl

-- ---- the marks of a word

-- the marks of a word are those of its lowest byte and of the others
module _ (n y r : ℕ) (s : r < 256) where
  zero_step : zero_marks (suc n) (y * 256 + r) ≡ zero_marks n y * 256 + zero_marks 1 r
  unfolding zero_marks bytes_of
  zero_step =
      let a = bit_and y (bytes_of 127 n) + bytes_of 127 n in
      let b = bit_and r 127 + 127 in
      let l : b < 256 = omega (arith, and_le_r r 127) in
      let o = bit_or a y in
      let p = bit_or b r in
      let q : p < 256 = or_lt 8 b r l s in
      let e : bit_and (y * 256 + r) (bytes_of 127 n * 256 + 127) ≡ bit_and y (bytes_of 127 n) * 256 + bit_and r 127 =
      and_block 8 y (bytes_of 127 n) r 127 s (omega arith) in
      let f : bit_and (y * 256 + r) (bytes_of 127 n * 256 + 127) + (bytes_of 127 n * 256 + 127) ≡ a * 256 + b = omega (arith, e) in
      ap (λ (z : ℕ). bit_and (bit_xor (bit_or z (y * 256 + r)) (bytes_of 255 n * 256 + 255)) (bytes_of 128 n * 256 + 128)) f
      ∙ ap (λ (z : ℕ). bit_and (bit_xor z (bytes_of 255 n * 256 + 255)) (bytes_of 128 n * 256 + 128)) (or_block 8 a y b r l s)
      ∙ ap (λ (z : ℕ). bit_and z (bytes_of 128 n * 256 + 128)) (xor_block 8 o (bytes_of 255 n) p 255 q (omega arith))
      ∙ and_block 8 (bit_xor o (bytes_of 255 n)) (bytes_of 128 n) (bit_xor p 255) 128 (xor_lt 8 p 255 q (omega arith)) (omega arith)

-- a zero byte is marked: tested for each byte by computation
zero_mark : (y : ℕ) → y < 256 → zero_marks 1 y ≡ cond (eqb y 0) 128 0
unfolding zero_marks bytes_of first_from
zero_mark y s =
    let p : ℕ → Bool = λ i. eqb (zero_marks 1 i) (cond (eqb i 0) 128 0) in
    eqb-true _ _ (not-false (p y) (none_first (λ i. not (p i)) 0 256 y refl (omega arith) s))

-- only equal numbers differ in no digit
xor_none : (r x : ℕ) → eqb (bit_xor r x) 0 ≡ eqb r x
xor_none r x =
    by-test (eqb r x)
    (λ t. ap (λ (y : ℕ). eqb (bit_xor y x) 0) (eqb-true r x t) ∙ eq-eqb _ _ (xor_self x) ∙ sym t)
    (λ t. ne_eqb (bit_xor r x) 0 (λ z. eqb-false r x t (omega (arith, z, xor_add_and r x, and_le_l r x, and_le_r r x))) ∙ sym t)

-- the zeros below the lowest set digit
zeros_below : (d m i : ℕ) → m % 2 ≡ 1 → i < d → count_trailing_zeros d (m * 2 ^ i) ≡ i
unfolding count_trailing_zeros
zeros_below zero m i o h = absurd (omega arith)
zeros_below (suc d) m zero o h =
    ap (λ (z : ℕ). under (z % 2) (count_trailing_zeros d (z / 2))) (mul-one m) ∙ ap (λ (r : ℕ). under r (count_trailing_zeros d (m / 2))) o
zeros_below (suc d) m (suc i) o h =
    ap (λ (r : ℕ). under r (count_trailing_zeros d (m * 2 ^ suc i / 2))) (shifted_even m i)
    ∙ ap (λ (z : ℕ). suc (count_trailing_zeros d z)) (shifted_half m i)
    ∙ ap suc (zeros_below d m i o (omega arith))

-- the lowest mark m of a word of n bytes at a: byte j of them is the first x
record MarkAt (t : List ℕ) (x a n m : ℕ) : Type 0 where
  byte : ℕ
  times : ℕ
  odd : times % 2 ≡ 1
  mark : m ≡ times * 2 ^ (8 * byte + 7)
  low : byte < n
  end : first_byte t x a ≡ a + byte

-- the same mark, a byte higher
byte_on : (m j : ℕ) → m * 2 ^ (8 * j + 7) * 256 ≡ m * 2 ^ (8 * (j + 1) + 7)
byte_on m j =
    let e : 8 * (j + 1) + 7 ≡ 8 * j + 7 + 8 = omega arith in
    rw (e, pow-add 2 (8 * j + 7) 8, mul_assoc)

module _ (t : List ℕ) (x : ℕ) (bytes : (i : ℕ) → get_or t i 0 < 256) (small : x < 256) where
  nothing : (a : ℕ) → byte_marks x 0 (word_at t a 0) ≡ 0
  unfolding byte_marks zero_marks bytes_of word_at
  nothing a = refl

  marks : (n a : ℕ) → byte_marks x (suc n) (word_at t a (suc n)) ≡ byte_marks x n (word_at t (a + 1) n) * 256 + cond (eqb (get_or t a 0) x) 128 0
  unfolding word_at byte_marks bytes_of
  marks n a =
      let w = word_at t (a + 1) n in
      let r = get_or t a 0 in
      let l : bit_xor r x < 256 = xor_lt 8 r x (bytes a) small in
      ap (zero_marks (suc n)) (xor_block 8 w (bytes_of x n) r x (bytes a) small)
      ∙ zero_step n (bit_xor w (bytes_of x n)) (bit_xor r x) l
      ∙ ap (λ (z : ℕ). zero_marks n (bit_xor w (bytes_of x n)) * 256 + z) (zero_mark (bit_xor r x) l ∙ ap (λ (b : Bool). cond b 128 0) (xor_none r x))

  marks_here : (n a : ℕ) → get_or t a 0 ≡ x → byte_marks x (suc n) (word_at t a (suc n)) ≡ byte_marks x n (word_at t (a + 1) n) * 256 + 128
  marks_here n a e = marks n a ∙ rw (eq-eqb _ _ e)

  marks_on : (n a : ℕ) → (get_or t a 0 ≡ x → ⊥) → byte_marks x (suc n) (word_at t a (suc n)) ≡ byte_marks x n (word_at t (a + 1) n) * 256
  marks_on n a d = marks n a ∙ rw (ne_eqb _ _ d) (omega arith)

  no_mark : (n a : ℕ) → a + n ≤ length t → byte_marks x n (word_at t a n) ≡ 0 → first_byte t x a ≡ first_byte t x (a + n)
  no_mark zero a h z = ap (first_byte t x) (omega arith)
  no_mark (suc n) a h z =
      by-test (eqb (get_or t a 0) x) (λ b. absurd (omega (arith, z, marks_here n a (eqb-true _ _ b)))) (λ b.
      let d : get_or t a 0 ≡ x → ⊥ = eqb-false _ _ b in
      let y : byte_marks x n (word_at t (a + 1) n) ≡ 0 = omega (arith, z, marks_on n a d) in
      let e : a + 1 + n ≡ a + suc n = omega arith in
      byte_next t x a (omega arith) d ∙ no_mark n (a + 1) (omega arith) y ∙ ap (first_byte t x) e)

  mark_in_lem : (n a : ℕ) → a + n ≤ length t → (byte_marks x n (word_at t a n) ≡ 0 → ⊥) → MarkAt t x a n (byte_marks x n (word_at t a n))
  mark_in_lem zero a h d = absurd (d (nothing a))
  mark_in_lem (suc n) a h d =
      by-test (eqb (get_or t a 0) x) (λ b.
      let e = eqb-true _ _ b in
      record { byte = 0; times = byte_marks x n (word_at t (a + 1) n) * 2 + 1; odd = omega arith; mark = marks_here n a e ∙ omega arith; low = omega arith; end = byte_here t x a (omega arith) e ∙ omega arith }) (λ b.
      let e : get_or t a 0 ≡ x → ⊥ = eqb-false _ _ b in
      let f = mark_in_lem n (a + 1) (omega arith) (λ z. d (marks_on n a e ∙ omega (arith, z))) in
      record { byte = f.byte + 1; times = f.times; odd = f.odd; mark = marks_on n a e ∙ ap (λ (y : ℕ). y * 256) f.mark ∙ byte_on f.times f.byte; low = omega (arith, f.low); end = byte_next t x a (omega arith) e ∙ omega (arith, f.end) })

  -- what the eight bytes at a are found to hold, by their marks m
  module _ (a m : ℕ) (h : a + 8 ≤ length t) (is : m ≡ byte_marks x 8 (word_at t a 8)) where
    pub found_none : m ≡ 0 → first_byte t x a ≡ first_byte t x (a + 8)
    found_none z = no_mark 8 a h (sym is ∙ z)

    pub found : (m ≡ 0 → ⊥) → (n : ℕ) → n ≡ count_trailing_zeros 64 m / 8 → (first_byte t x a ≡ a + n) × (n < 8)
    found d n k =
        let f = mark_in_lem 8 a h (λ z. d (is ∙ z)) in
        let e : count_trailing_zeros 64 m ≡ 8 * f.byte + 7 =
        ap (count_trailing_zeros 64) (is ∙ f.mark) ∙ zeros_below 64 f.times (8 * f.byte + 7) f.odd (omega (arith, f.low)) in
        (omega (arith, f.end, e), omega (arith, f.low, e))

-- ---- what the code computes

-- a byte in each place of a word
pub bytes_eight : (x : ℕ) → x * 72340172838076673 ≡ bytes_of x 8
unfolding bytes_of
bytes_eight x = omega arith

-- eight bytes are two numbers of four
pub word_eight : (t : List ℕ) (a : ℕ) → a + 8 ≤ length t → number Little 4 t (a + 4) * 4294967296 + number Little 4 t a ≡ word_at t a 8
unfolding word_at
word_eight t a h =
    let e2 : a + 1 + 1 ≡ a + 2 = omega arith in
    let e3 : a + 2 + 1 ≡ a + 3 = omega arith in
    let e4 : a + 3 + 1 ≡ a + 4 = omega arith in
    let e6 : a + 4 + 1 + 1 ≡ a + 4 + 2 = omega arith in
    let e7 : a + 4 + 2 + 1 ≡ a + 4 + 3 = omega arith in
    rw (little_4 t a (omega arith), little_4 t (a + 4) (omega arith), e2, e3, e4, e6, e7) (omega arith)
