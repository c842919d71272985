-- A number written into a field is the number read there, in either byte order and for any width: the digits of x are divided out from the
-- top, so `n / m * m + n % m ≡ n` at each of them gives x back. Assumes nothing.
use mathlib.Core.Path.{◌≡◌, refl, sym, ap, ◌∙◌}
use mathlib.Core.Logic.{◌⊎◌, ⊎_elim}
use mathlib.Core.List.{List, [], ◌∷◌, reverse_aux, reverse-reverse}
use Prim.Native.Nat.{ℕ, zero, suc, ◌+◌, ◌*◌, ◌/◌, ◌%◌, ◌^◌, ◌≤◌, ◌<◌}
use native.Mathlib.Nat.{div-add-mod', div-one, pow-succ', pow-le-pow_right, lt_of_lt_of_le, min-le_left}
use native.Mathlib.Omega.{arith}
use lib.ListN.{length, take, drop, get_or, length-reverse, length-take}
use lib.Arith.{digits_lt}
use Rattle.base_lists.specs.Windows.{Within, spliced}
use Rattle.base_lists.proofs.Windows.{drop_next, part_of_part, part_before, part_after, within_read, within_spliced}
use Rattle.base_fields.specs.declared.ByteOrder.{ByteOrder}
use Rattle.base_fields.specs.declared.ByteOrder.TheVariants.{Big, Little}
use Rattle.base_fields.specs.Numbers.{turned, magnitude, digits, number, encoded}

pub length_digits : (w x : ℕ) → length (digits w x) ≡ w
unfolding digits
length_digits zero x = refl
length_digits (suc w) x = ap suc (length_digits w (x % 256 ^ w))

-- no bound on x: the first digit is whatever is left
pub magnitude_digits : (w x : ℕ) → magnitude (digits (suc w) x) ≡ x
unfolding magnitude digits
magnitude_digits zero x = omega arith
magnitude_digits (suc w) x = rw (length_digits (suc w) (x % 256 ^ suc w), magnitude_digits w (x % 256 ^ suc w)) (div-add-mod' x (256 ^ suc w))

pub turned_turned : (order : ByteOrder) (l : List ℕ) → turned order (turned order l) ≡ l
unfolding turned
turned_turned Big l = refl
turned_turned Little l = reverse-reverse l

pub length_turned : (order : ByteOrder) (l : List ℕ) → length (turned order l) ≡ length l
unfolding turned
length_turned Big l = refl
length_turned Little l = length-reverse l

pub length_encoded : (order : ByteOrder) (w x : ℕ) → length (encoded order w x) ≡ w
unfolding encoded
length_encoded order w x = length_turned order (digits w x) ∙ length_digits w x

-- equal parts hold equal numbers
pub number_same : (order : ByteOrder) (w : ℕ) (l m : List ℕ) (o p : ℕ) → take w (drop o l) ≡ take w (drop p m) → number order w l o ≡ number order w m p
unfolding number
number_same order w l m o p e = rw e

pub number_encoded : (order : ByteOrder) (w x : ℕ) → magnitude (turned order (encoded order (suc w) x)) ≡ x
unfolding encoded
number_encoded order w x = rw (turned_turned order (digits (suc w) x)) (magnitude_digits w x)

-- what is read where x stands is x
pub within_number : (order : ByteOrder) (w x o : ℕ) (l : List ℕ) → Within (encoded order (suc w) x) o l → number order (suc w) l o ≡ x
unfolding number
within_number order w x o l v =
    let e : take (suc w) (drop o l) ≡ encoded order (suc w) x =
    ap (λ (n : ℕ). take n (drop o l)) (sym (length_encoded order (suc w) x)) ∙ within_read (encoded order (suc w) x) l o v in
    rw e (number_encoded order w x)

pub number_spliced : (order : ByteOrder) (w x o : ℕ) (l : List ℕ) → o + suc w ≤ length l → number order (suc w) (spliced l o (encoded order (suc w) x)) o ≡ x
number_spliced order w x o l h =
    within_number order w x o (spliced l o (encoded order (suc w) x)) (within_spliced l o (encoded order (suc w) x) (rw (length_encoded order (suc w) x) h))

-- a field outside what is overwritten, and a field of a part
pub number_outside : (order : ByteOrder) (w p : ℕ) (l : List ℕ) (o : ℕ) (b : List ℕ) → o + length b ≤ length l → (p + w ≤ o) ⊎ (o + length b ≤ p)
    → number order w (spliced l o b) p ≡ number order w l p
number_outside order w p l o b h k = number_same order w (spliced l o b) l p p (⊎_elim (part_before l o b h p w) (part_after l o b h p w) k)

pub number_part : (order : ByteOrder) (w : ℕ) (l : List ℕ) (o n k : ℕ) → k + w ≤ n → number order w (take n (drop o l)) k ≡ number order w l (o + k)
number_part order w l o n k h = number_same order w (take n (drop o l)) l k (o + k) (part_of_part l o n k w h)

-- the bytes of a part, one by one
bytes_1 : (l : List ℕ) (o : ℕ) → o + 1 ≤ length l → take 1 (drop o l) ≡ get_or l o 0 ∷ []
bytes_1 l o h = rw (drop_next l o 0 (omega arith))

bytes_2 : (l : List ℕ) (o : ℕ) → o + 2 ≤ length l → take 2 (drop o l) ≡ get_or l o 0 ∷ get_or l (o + 1) 0 ∷ []
bytes_2 l o h = rw (drop_next l o 0 (omega arith), drop_next l (o + 1) 0 (omega arith))

bytes_3 : (l : List ℕ) (o : ℕ) → o + 3 ≤ length l → take 3 (drop o l) ≡ get_or l o 0 ∷ get_or l (o + 1) 0 ∷ get_or l (o + 2) 0 ∷ []
bytes_3 l o h =
    let a : o + 1 + 1 ≡ o + 2 = omega arith in
    rw (drop_next l o 0 (omega arith), drop_next l (o + 1) 0 (omega arith), a, drop_next l (o + 2) 0 (omega arith))

bytes_4 : (l : List ℕ) (o : ℕ) → o + 4 ≤ length l → take 4 (drop o l) ≡ get_or l o 0 ∷ get_or l (o + 1) 0 ∷ get_or l (o + 2) 0 ∷ get_or l (o + 3) 0 ∷ []
bytes_4 l o h =
    let a : o + 1 + 1 ≡ o + 2 = omega arith in
    let b : o + 2 + 1 ≡ o + 3 = omega arith in
    rw (drop_next l o 0 (omega arith), drop_next l (o + 1) 0 (omega arith), a, drop_next l (o + 2) 0 (omega arith), b, drop_next l (o + 3) 0 (omega arith))

-- a byte is the same in every order
pub number_byte : (order : ByteOrder) (l : List ℕ) (o : ℕ) → o < length l → number order 1 l o ≡ get_or l o 0
unfolding number turned magnitude
number_byte Big l o h = rw (bytes_1 l o (omega arith)) (omega arith)
number_byte Little l o h = rw (bytes_1 l o (omega arith)) (omega arith)

pub encoded_byte : (order : ByteOrder) (x : ℕ) → encoded order 1 x ≡ x ∷ []
unfolding encoded turned digits
encoded_byte Big x = rw (div-one x)
encoded_byte Little x = rw (div-one x)

-- the fields of two, three and four bytes, read in each order
pub big_2 : (l : List ℕ) (o : ℕ) → o + 2 ≤ length l → number Big 2 l o ≡ get_or l o 0 * 256 + get_or l (o + 1) 0
unfolding number turned magnitude
big_2 l o h = rw (bytes_2 l o h) (omega arith)

pub little_2 : (l : List ℕ) (o : ℕ) → o + 2 ≤ length l → number Little 2 l o ≡ get_or l (o + 1) 0 * 256 + get_or l o 0
unfolding number turned magnitude
little_2 l o h = rw (bytes_2 l o h) (omega arith)

pub big_3 : (l : List ℕ) (o : ℕ) → o + 3 ≤ length l → number Big 3 l o ≡ get_or l o 0 * 65536 + get_or l (o + 1) 0 * 256 + get_or l (o + 2) 0
unfolding number turned magnitude
big_3 l o h = rw (bytes_3 l o h) (omega arith)

pub little_3 : (l : List ℕ) (o : ℕ) → o + 3 ≤ length l → number Little 3 l o ≡ get_or l (o + 2) 0 * 65536 + get_or l (o + 1) 0 * 256 + get_or l o 0
unfolding number turned magnitude
little_3 l o h = rw (bytes_3 l o h) (omega arith)

pub big_4 : (l : List ℕ) (o : ℕ) → o + 4 ≤ length l
    → number Big 4 l o ≡ get_or l o 0 * 16777216 + get_or l (o + 1) 0 * 65536 + get_or l (o + 2) 0 * 256 + get_or l (o + 3) 0
unfolding number turned magnitude
big_4 l o h = rw (bytes_4 l o h) (omega arith)

pub little_4 : (l : List ℕ) (o : ℕ) → o + 4 ≤ length l
    → number Little 4 l o ≡ get_or l (o + 3) 0 * 16777216 + get_or l (o + 2) 0 * 65536 + get_or l (o + 1) 0 * 256 + get_or l o 0
unfolding number turned magnitude
little_4 l o h = rw (bytes_4 l o h) (omega arith)

-- the digits of two, three and four bytes
digits_2 : (x : ℕ) → digits 2 x ≡ x / 256 ∷ x % 256 ∷ []
unfolding digits
digits_2 x = rw (div-one (x % 256))

digits_3 : (x : ℕ) → digits 3 x ≡ x / 65536 ∷ x / 256 % 256 ∷ x % 256 ∷ []
unfolding digits
digits_3 x =
    let b : x % 65536 / 256 ≡ x / 256 % 256 = omega arith in
    let c : x % 65536 % 256 / 1 ≡ x % 256 = omega arith in
    rw (b, c)

digits_4 : (x : ℕ) → digits 4 x ≡ x / 16777216 ∷ x / 65536 % 256 ∷ x / 256 % 256 ∷ x % 256 ∷ []
unfolding digits
digits_4 x =
    let b : x % 16777216 / 65536 ≡ x / 65536 % 256 = omega arith in
    let c : x % 16777216 % 65536 / 256 ≡ x / 256 % 256 = omega arith in
    let d : x % 16777216 % 65536 % 256 / 1 ≡ x % 256 = omega arith in
    rw (b, c, d)

pub encoded_big_2 : (x : ℕ) → encoded Big 2 x ≡ x / 256 ∷ x % 256 ∷ []
unfolding encoded turned
encoded_big_2 x = digits_2 x

pub encoded_little_2 : (x : ℕ) → encoded Little 2 x ≡ x % 256 ∷ x / 256 ∷ []
unfolding encoded turned
encoded_little_2 x = rw (digits_2 x)

pub encoded_big_3 : (x : ℕ) → encoded Big 3 x ≡ x / 65536 ∷ x / 256 % 256 ∷ x % 256 ∷ []
unfolding encoded turned
encoded_big_3 x = digits_3 x

pub encoded_little_3 : (x : ℕ) → encoded Little 3 x ≡ x % 256 ∷ x / 256 % 256 ∷ x / 65536 ∷ []
unfolding encoded turned
encoded_little_3 x = rw (digits_3 x)

pub encoded_big_4 : (x : ℕ) → encoded Big 4 x ≡ x / 16777216 ∷ x / 65536 % 256 ∷ x / 256 % 256 ∷ x % 256 ∷ []
unfolding encoded turned
encoded_big_4 x = digits_4 x

pub encoded_little_4 : (x : ℕ) → encoded Little 4 x ≡ x % 256 ∷ x / 256 % 256 ∷ x / 65536 % 256 ∷ x / 16777216 ∷ []
unfolding encoded turned
encoded_little_4 x = rw (digits_4 x)

-- bytes make a number of at most as many digits
abbrev Small : List ℕ → Type 0
Small [] = Unit {0}
Small (x ∷ l) = (x < 256) × Small l

small : (l : List ℕ) → ((i : ℕ) → get_or l i 0 < 256) → Small l
small [] h = tt
small (x ∷ l) h = (h 0, small l (λ i. h (suc i)))

small_drop : (n : ℕ) (l : List ℕ) → Small l → Small (drop n l)
small_drop zero l s = s
small_drop (suc n) [] s = tt
small_drop (suc n) (x ∷ l) s = small_drop n l s.1

small_take : (n : ℕ) (l : List ℕ) → Small l → Small (take n l)
small_take zero l s = tt
small_take (suc n) [] s = tt
small_take (suc n) (x ∷ l) s = (s.0, small_take n l s.1)

small_back : (l r : List ℕ) → Small l → Small r → Small (reverse_aux l r)
small_back [] r s t = t
small_back (x ∷ l) r s t = small_back l (x ∷ r) s.1 (s.0, t)

small_turned : (order : ByteOrder) (l : List ℕ) → Small l → Small (turned order l)
unfolding turned
small_turned Big l s = s
small_turned Little l s = small_back l [] s tt

magnitude_lt : (l : List ℕ) → Small l → magnitude l < 256 ^ length l
unfolding magnitude
magnitude_lt [] s = omega arith
magnitude_lt (x ∷ l) s = rw (pow-succ' 256 (length l)) (digits_lt s.0 (magnitude_lt l s.1))

pub number_lt : (order : ByteOrder) (w : ℕ) (l : List ℕ) (o : ℕ) → ((i : ℕ) → get_or l i 0 < 256) → number order w l o < 256 ^ w
unfolding number
number_lt order w l o h =
    let m : length (turned order (take w (drop o l))) ≤ w = rw (length_turned order (take w (drop o l)), length-take) (min-le_left w (length (drop o l))) in
    lt_of_lt_of_le (magnitude_lt (turned order (take w (drop o l))) (small_turned order _ (small_take w (drop o l) (small_drop o l (small l h)))))
    (pow-le-pow_right (omega arith) m)
