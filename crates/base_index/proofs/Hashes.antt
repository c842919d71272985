-- Hashes, word by word and part by part: what is left of a number by 2 ^ 64 - 1 is left of the sum of its words, so a string may be hashed from its last part to its first, or
-- its words summed up from its first to its last. Assumes nothing.
use Rattle.std.proofs.Common.{◌≡◌, ℕ, zero, suc, ◌+◌, ◌-◌, ◌*◌, ◌/◌, ◌%◌, ◌^◌, ◌<◌, ◌≤◌, min, List, [], ◌∷◌, ◌++◌, length, get_or, take, drop, sym, ap, ◌∙◌, mul-le-mul_right, mod-lt, mod-eq_of_lt, mul_assoc, mul_comm, add-mul, one-mul, div-add-mod', mul-add, mul_right_comm, arith, length-append, length-take, take_all, get_or-take, get_or-append-add, pow_pos, pow-add, shr-shr, shr_lt}
use native.Mathlib.Nat.{div-add-mod, mod-add-mod, add-mod-mod, mul-add-mod_self_left}
use lib.ListN.{get_or-append}
use Rattle.base_lists.specs.Strings.{name_end, name_at}
use Rattle.base_lists.proofs.Ranges.{by-lt}
use Rattle.base_lists.proofs.Strings.{name_length, name_byte}
use Rattle.base_names.specs.Words.{word_at}
use Rattle.base_index.specs.Index.{HASH_BYTES, ROUND, mixed_at, mixed, spread, hash_of}
use Rattle.base_index.proofs.Numbers.{word_ext, word_split, byte_bits}

-- ---- what is left by 2 ^ 64 - 1

-- a rest that goes into a sum, or into a product in it, need not have been taken
rest_late : (a c x : ℕ) → (a + c * (x % ROUND)) % ROUND ≡ (a + c * x) % ROUND
rest_late a c x =
    let q = x / ROUND in
    let r = x % ROUND in
    let e : c * x ≡ c * (q * ROUND) + c * r = ap (λ (k : ℕ). c * k) (sym (div-add-mod' x ROUND)) ∙ mul-add c (q * ROUND) r in
    let f : c * (q * ROUND) ≡ c * q * ROUND = sym (mul_assoc c q ROUND) in
    let g : a + c * x ≡ ROUND * (c * q) + (a + c * r) = omega (arith, e, f) in
    sym (ap (λ (k : ℕ). k % ROUND) g ∙ mul-add-mod_self_left ROUND (c * q) (a + c * r))

-- numbers that leave the same may stand for one another
pub same_rest : (a x y : ℕ) → x % ROUND ≡ y % ROUND → (a + x) % ROUND ≡ (a + y) % ROUND
same_rest a x y e = sym (add-mod-mod a x ROUND) ∙ ap (λ (k : ℕ). (a + k) % ROUND) e ∙ add-mod-mod a y ROUND

-- the sum of two words that has been brought back into one
pub plus_over : (a b s : ℕ) → s + 2 ^ 64 ≡ a + b → (s + 1) % ROUND ≡ (a + b) % ROUND
plus_over a b s e =
    let f : a + b ≡ ROUND * 1 + (s + 1) = omega (arith, e) in
    sym (ap (λ (k : ℕ). k % ROUND) f ∙ mul-add-mod_self_left ROUND 1 (s + 1))

-- words weigh the same, wherever they stand
words_round : (k x y : ℕ) → (x + 256 ^ (8 * k) * y) % ROUND ≡ (x + y) % ROUND
words_round zero x y = ap (λ (n : ℕ). n % ROUND) (omega arith)
words_round (suc k) x y =
    let e : 8 * suc k ≡ 8 * k + 8 = omega arith in
    let w = 256 ^ (8 * k) in
    let f : 256 ^ (8 * suc k) ≡ w * 256 ^ 8 = ap (λ (n : ℕ). 256 ^ n) e ∙ pow-add 256 (8 * k) 8 in
    let g : w * 256 ^ 8 * y ≡ 256 ^ 8 * (w * y) = ap (λ (n : ℕ). n * y) (mul_comm w (256 ^ 8)) ∙ mul_assoc (256 ^ 8) w y in
    let h : x + 256 ^ (8 * suc k) * y ≡ ROUND * (w * y) + (x + w * y) = ap (λ (n : ℕ). x + n * y) f ∙ omega (arith, g) in
    ap (λ (n : ℕ). n % ROUND) h ∙ mul-add-mod_self_left ROUND (w * y) (x + w * y) ∙ words_round k x y

-- where d e is 2 ^ 64, the upper part q of a word h goes below its lower part r: both together are e times h
turned_rest : (h d e q r : ℕ) → d * e ≡ 2 ^ 64 → h ≡ d * q + r → (r * e + q) % ROUND ≡ (e * h) % ROUND
turned_rest h d e q r whole is =
    let f : e * h ≡ e * (d * q) + e * r = ap (λ (k : ℕ). e * k) is ∙ mul-add e (d * q) r in
    let g : e * (d * q) ≡ 2 ^ 64 * q = sym (mul_assoc e d q) ∙ ap (λ (k : ℕ). k * q) (mul_comm e d ∙ whole) in
    let c : e * r ≡ r * e = mul_comm e r in
    let k : e * h ≡ ROUND * q + (r * e + q) = omega (arith, f, g, c) in
    sym (ap (λ (n : ℕ). n % ROUND) k ∙ mul-add-mod_self_left ROUND q (r * e + q))

bounded : (a b c d : ℕ) → a ≤ b → a ≡ c → b ≡ d → c ≤ d
bounded a b c d l e f = omega arith

-- a word h that is shifted by n bytes: its lower part stays in the word, and its upper part has n bytes
record Turned (h n : ℕ) : Type 0 where
  up : ℕ
  low : ℕ
  shifted : h * 2 ^ (8 * n) % 2 ^ 64 ≡ low * 2 ^ (8 * n)
  back : h / 2 ^ (56 - 8 * n) / 2 ^ 8 ≡ up
  room : low * 2 ^ (8 * n) + 2 ^ (8 * n) ≤ 2 ^ 64
  few : up < 2 ^ (8 * n)
  same : (low * 2 ^ (8 * n) + up) % ROUND ≡ (256 ^ n * h) % ROUND

turned : (h n : ℕ) → h < 2 ^ 64 → n < 8 → Turned h n
turned h n word small =
    let d = 2 ^ (64 - 8 * n) in
    let e = 2 ^ (8 * n) in
    let q = h / d in
    let r = h % d in
    let i : 64 - 8 * n + 8 * n ≡ 64 = omega arith in
    let j : 56 - 8 * n + 8 ≡ 64 - 8 * n = omega arith in
    let whole : d * e ≡ 2 ^ 64 = sym (pow-add 2 (64 - 8 * n) (8 * n)) ∙ ap (λ (k : ℕ). 2 ^ k) i in
    let is : h ≡ d * q + r = sym (div-add-mod h d) in
    let less : r < d = mod-lt h (pow_pos (64 - 8 * n)) in
    let next : r + 1 ≤ d = omega (arith, less) in
    let under : (r + 1) * e ≤ d * e = mul-le-mul_right e next in
    let one : (r + 1) * e ≡ r * e + e = add-mul r 1 e ∙ ap (λ (k : ℕ). r * e + k) (one-mul e) in
    let split : h * e ≡ 2 ^ 64 * q + r * e =
    ap (λ (k : ℕ). k * e) is ∙ add-mul (d * q) r e ∙ ap (λ (k : ℕ). k + r * e) (mul_right_comm d q e ∙ ap (λ (k : ℕ). k * q) whole) in
    let fits : r * e < 2 ^ 64 = omega (arith, under, one, whole, pow_pos (8 * n)) in
    let o : 8 * n + (64 - 8 * n) ≡ 64 = omega arith in
    let up : q < e = shr_lt (8 * n) (64 - 8 * n) (rw o word) in
    record {
      up = q;
      low = r;
      shifted = ap (λ (k : ℕ). k % 2 ^ 64) split ∙ mul-add-mod_self_left (2 ^ 64) q (r * e) ∙ mod-eq_of_lt fits;
      back = shr-shr h (56 - 8 * n) 8 ∙ ap (λ (k : ℕ). h / 2 ^ k) j;
      room = bounded ((r + 1) * e) (d * e) (r * e + e) (2 ^ 64) under one whole;
      few = up;
      same = turned_rest h d e q r whole is ∙ ap (λ (k : ℕ). (k * h) % ROUND) (sym (byte_bits n));
    }

pub turn_rest : (h n : ℕ) → h < 2 ^ 64 → n < 8 → (h * 2 ^ (8 * n) % 2 ^ 64 + h / 2 ^ (56 - 8 * n) / 2 ^ 8) % ROUND ≡ (256 ^ n * h) % ROUND
turn_rest h n word small =
    let t = turned h n word small in
    ap (λ (k : ℕ). (k + h / 2 ^ (56 - 8 * n) / 2 ^ 8) % ROUND) t.shifted ∙ ap (λ (k : ℕ). (t.low * 2 ^ (8 * n) + k) % ROUND) t.back ∙ t.same

pub turn_fits : (h n : ℕ) → h < 2 ^ 64 → n < 8 → h * 2 ^ (8 * n) % 2 ^ 64 + h / 2 ^ (56 - 8 * n) / 2 ^ 8 < 2 ^ 64
turn_fits h n word small =
    let t = turned h n word small in
    omega (arith, t.shifted, t.back, t.room, t.few)

-- ---- bytes before a sum

module _ (s : List ℕ) where
  -- the bytes behind the first m are hashed first
  pub mixed_join : (a m n h : ℕ) → mixed_at s a (m + n) h ≡ mixed_at s a m (mixed_at s (a + m) n h)
  unfolding mixed_at
  mixed_join a m n h =
      let v = word_at s (a + m) n in
      let w = word_at s a m in
      let e : 256 ^ (m + n) * h ≡ 256 ^ m * (256 ^ n * h) = ap (λ (k : ℕ). k * h) (pow-add 256 m n) ∙ mul_assoc (256 ^ m) (256 ^ n) h in
      let f : 256 ^ m * (v + 256 ^ n * h) ≡ 256 ^ m * v + 256 ^ m * (256 ^ n * h) = mul-add (256 ^ m) v (256 ^ n * h) in
      let g : word_at s a (m + n) + 256 ^ (m + n) * h ≡ w + 256 ^ m * (v + 256 ^ n * h) = omega (arith, word_split s a m n, e, f) in
      ap (λ (k : ℕ). k % ROUND) g ∙ sym (rest_late w (256 ^ m) (v + 256 ^ n * h))

  pub mixed_none : (a h : ℕ) → mixed_at s a 0 h ≡ h % ROUND
  unfolding mixed_at word_at
  mixed_none a h = ap (λ (k : ℕ). k % ROUND) (omega arith)

  -- one byte
  pub mixed_one : (a h : ℕ) → mixed_at s a 1 h ≡ (get_or s a 0 + 256 * h) % ROUND
  unfolding mixed_at word_at
  mixed_one a h = ap (λ (k : ℕ). k % ROUND) (omega arith)

-- eight bytes more before the sum of those from i on
pub mixed_word : (s : List ℕ) (n h i g w r : ℕ) → 8 ≤ i → i ≤ n → g % ROUND ≡ mixed_at s i (n - i) h → w ≡ word_at s (i - 8) 8 → r % ROUND ≡ (w + g) % ROUND
    → r % ROUND ≡ mixed_at s (i - 8) (n - (i - 8)) h
unfolding mixed_at
mixed_word s n h i g w r l k e is told =
    let u : i ≡ i - 8 + 8 = omega arith in
    let v : 8 + (n - i) ≡ n - (i - 8) = omega arith in
    told
    ∙ sym (words_round 1 w g)
    ∙ sym (rest_late w (256 ^ 8) g)
    ∙ ap (λ (x : ℕ). (x + 256 ^ 8 * (g % ROUND)) % ROUND) is
    ∙ ap (mixed_at s (i - 8) 8) (e ∙ ap (λ (j : ℕ). mixed_at s j (n - i) h) u)
    ∙ sym (mixed_join s (i - 8) 8 (n - i) h)
    ∙ ap (λ (j : ℕ). mixed_at s (i - 8) j h) v

-- the part that words leave, before a hash
pub mixed_part : (s : List ℕ) (n h g part : ℕ) → part ≡ word_at s (n / 8 * 8) (n % 8) → g % ROUND ≡ (part + 256 ^ (n % 8) * h) % ROUND
    → g % ROUND ≡ mixed_at s (n / 8 * 8) (n - n / 8 * 8) h
unfolding mixed_at
mixed_part s n h g part is told =
    let e : n % 8 ≡ n - n / 8 * 8 = omega arith in
    told ∙ ap (λ (x : ℕ). (x + 256 ^ (n % 8) * h) % ROUND) is ∙ ap (λ (j : ℕ). mixed_at s (n / 8 * 8) j h) e

mixed_ext : (s t : List ℕ) (a b n h : ℕ) → ((i : ℕ) → i < n → get_or s (a + i) 0 ≡ get_or t (b + i) 0) → mixed_at s a n h ≡ mixed_at t b n h
unfolding mixed_at
mixed_ext s t a b n h f = ap (λ (w : ℕ). (w + 256 ^ n * h) % ROUND) (word_ext s t a b n f)

-- of a string that is taken in part, only the part is read
pub mixed_taken : (s : List ℕ) (room h : ℕ) → mixed (take room s) h ≡ mixed_at s 0 (min room (length s)) h
unfolding mixed
mixed_taken s room h =
    ap (λ (n : ℕ). mixed_at (take room s) 0 n h) (length-take room s)
    ∙ mixed_ext (take room s) s 0 0 (min room (length s)) h (λ i l. get_or-take room s (0 + i) 0 (omega arith))

-- no more is taken of a string than it has
pub taken_whole : (s : List ℕ) (room n : ℕ) → n ≡ min room (length s) → take (n - 0) (drop 0 s) ≡ take room s
taken_whole s room n e =
    by-lt room (length s)
    (λ l.
    let f : n - 0 ≡ room = omega (arith, e) in
    ap (λ (k : ℕ). take k s) f)
    (λ l. take_all (n - 0) s (omega (arith, e)) ∙ sym (take_all room s l))

-- only the rest of what stands behind plays a part
pub mixed_late : (s : List ℕ) (a n h : ℕ) → mixed_at s a n (h % ROUND) ≡ mixed_at s a n h
unfolding mixed_at
mixed_late s a n h = rest_late (word_at s a n) (256 ^ n) h

mixed_rest : (s : List ℕ) (h : ℕ) → mixed s (h % ROUND) ≡ mixed s h
unfolding mixed
mixed_rest s h = mixed_late s 0 (length s) h

mixed_append : (a b : List ℕ) (h : ℕ) → mixed (a ++ b) h ≡ mixed a (mixed b h)
unfolding mixed
mixed_append a b h =
    let l = a ++ b in
    let e : 0 + length a ≡ length a = omega arith in
    ap (λ (n : ℕ). mixed_at l 0 n h) (length-append a b)
    ∙ mixed_join l 0 (length a) (length b) h
    ∙ ap (mixed_at l 0 (length a)) (mixed_ext l b (0 + length a) 0 (length b) h (λ i k. ap (λ (j : ℕ). get_or l j 0) (omega (arith, e)) ∙ get_or-append-add a b i 0 ∙ ap (λ (j : ℕ). get_or b j 0) (omega arith)))
    ∙ mixed_ext l a 0 0 (length a) (mixed_at b 0 (length b) h) (λ i k. get_or-append a b 0 (0 + i) (omega arith))

-- ---- the hash of a string

take_append : (n : ℕ) (a b : List ℕ) → take n (a ++ b) ≡ take n a ++ take (n - length a) b
take_append zero a b = let e : 0 - length a ≡ 0 = omega arith in rw e
take_append (suc n) [] b = let e : suc n - 0 ≡ suc n = omega arith in rw e
take_append (suc n) (x ∷ a) b = let e : suc n - suc (length a) ≡ n - length a = omega arith in rw (e, take_append n a b)

-- a string in two parts: only the room that the first part leaves is taken of the second
hash_parts : (a b : List ℕ) → hash_of (a ++ b) ≡ (spread (mixed (take HASH_BYTES a) (mixed (take (HASH_BYTES - length a) b) 0)) + (length a + length b)) % 2 ^ 16
unfolding hash_of
hash_parts a b = rw (length-append a b, take_append HASH_BYTES a b, mixed_append (take HASH_BYTES a) (take (HASH_BYTES - length a) b) 0)

-- the back b, of m bytes, is summed up as far as the front a leaves `room`, then a before it, and the length of both goes in
pub hash_joined : (r g h m room : ℕ) (a b : List ℕ)
    → r ≡ (spread (g % ROUND) + (length a + m)) % 2 ^ 16 → g % ROUND ≡ mixed (take HASH_BYTES a) h → h % ROUND ≡ mixed (take room b) 0 → m ≡ length b → room ≡ HASH_BYTES - length a
    → r ≡ hash_of (a ++ b)
hash_joined r g h m room a b told front back long left =
    told
    ∙ ap (λ (x : ℕ). (spread x + (length a + m)) % 2 ^ 16) (front ∙ sym (mixed_rest (take HASH_BYTES a) h) ∙ ap (mixed (take HASH_BYTES a)) back)
    ∙ rw (long, left) (sym (hash_parts a b))

-- a hash has two bytes
pub hash_low : (s : List ℕ) → hash_of s < 2 ^ 16
unfolding hash_of
hash_low s = mod-lt (spread (mixed (take HASH_BYTES s) 0) + length s) (omega arith)

pub same_hash : (a b : List ℕ) → a ≡ b → hash_of a ≡ hash_of b
same_hash a b e = ap hash_of e

-- ---- the hash of a name in a table

module _ (t : List ℕ) (at : ℕ) where
  -- a name of m bytes, all of which are hashed
  pub hash_name : (m : ℕ) → name_end t at ≡ at + m → m ≤ HASH_BYTES → hash_of (name_at t at) ≡ (spread (word_at t at m % ROUND) + m) % 2 ^ 16
  unfolding hash_of mixed_at
  hash_name m e l =
      let s = name_at t at in
      let long : length s ≡ m = name_length t at ∙ omega (arith, e) in
      let all : min HASH_BYTES (length s) ≡ m = omega (arith, long) in
      let none : word_at t at m + 256 ^ m * 0 ≡ word_at t at m = omega arith in
      let is : mixed (take HASH_BYTES s) 0 ≡ word_at t at m % ROUND =
      mixed_taken s HASH_BYTES 0
      ∙ ap (λ (n : ℕ). mixed_at s 0 n 0) all
      ∙ mixed_ext s t 0 at m 0 (λ i k. ap (λ (j : ℕ). get_or s j 0) (omega arith) ∙ name_byte t at i (omega (arith, long)))
      ∙ ap (λ (w : ℕ). w % ROUND) none in
      rw (is, long)

  -- the sum of the words of i bytes goes on by n bytes more
  pub sum_on : (sum i n : ℕ) → i % 8 ≡ 0 → sum % ROUND ≡ word_at t at i % ROUND → (sum + word_at t (at + i) n) % ROUND ≡ word_at t at (i + n) % ROUND
  sum_on sum i n m e =
      let w = word_at t (at + i) n in
      let k : 8 * (i / 8) ≡ i = omega (arith, m) in
      sym (words_round (i / 8) sum w)
      ∙ ap (λ (x : ℕ). (sum + 256 ^ x * w) % ROUND) k
      ∙ sym (mod-add-mod sum ROUND (256 ^ i * w))
      ∙ ap (λ (x : ℕ). (x + 256 ^ i * w) % ROUND) e
      ∙ mod-add-mod (word_at t at i) ROUND (256 ^ i * w)
      ∙ ap (λ (x : ℕ). x % ROUND) (sym (word_split t at i n))
