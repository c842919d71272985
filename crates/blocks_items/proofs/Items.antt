-- The laws of a block's other values: a line is its key and its value; eight hex digits write a word; a jump table's size has at most seven digits; and
-- when a block gives its first glabel a size. Assumes nothing.
use Prim.Native.Nat.{ℕ, ◌+◌, ◌-◌, ◌*◌, ◌^◌, ◌≤◌, ◌<◌}
use mathlib.Core.Path.{◌≡◌, refl, sym, ◌∙◌}
use mathlib.Core.Bool.{Bool, true, false}
use mathlib.Core.List.{List, ◌∷◌}
use native.Mathlib.Nat.{pow-le-pow_right}
use native.Mathlib.Numerals.{add-one}
use native.Mathlib.Omega.{arith}
use lib.ListN.{length, take, drop, get_or, length-append, drop_of_length-le}
use lib.Dec.{eqb, leb}
use borrow.Author.Tests.{eqb-true, leb-true}
use Rattle.base_lists.proofs.Ranges.{and_parts, by-test}
use Rattle.base_lists.proofs.Windows.{drop_next}
use Rattle.base_scope.specs.Limits.{NUMBER_LIMIT}
use Rattle.base_scope.specs.Codes.{TEXT, line_of}
use Rattle.base_text.specs.Decimals.{decimal}
use Rattle.blocks_values.specs.Values.{every, is_digit, is_hex_digit, dummy_sound}
use Rattle.blocks_lines.specs.Keys.{KEY_GLABEL, KEY_DUMMY, KEY_JTBL, keys, repeats, value_sound, is_key_line, value_at}
use Rattle.blocks_values.proofs.Values.{every_true, digit_range, hex_letter, number_digits, digits_few, sound_number, sound_decimal}
use Rattle.blocks_lines.proofs.Keys.{key_line_sound}
use Rattle.blocks_file.specs.Blocks.{group_at, block_at, block_count}
use Rattle.blocks_file.proofs.Blocks.{counted_key, counted_jumps}
use Rattle.blocks_places.specs.Places.{Place, taken}
use Rattle.blocks_items.specs.Items.{hex_digit, hex_from, jump_table, sized}

-- ---- hex digits

module _ (x : ℕ) (t : is_hex_digit x ≡ true) where
  digit_not : 58 ≤ x → is_digit x ≡ false
  digit_not h = by-test (is_digit x) (λ d. absurd (omega (arith, (digit_range x d).1))) (λ f. f)

  letter_range : is_digit x ≡ false → (97 ≤ x) × (x ≤ 102)
  letter_range f =
      let r = and_parts (leb 97 x) (leb x 102) (sym (hex_letter x f) ∙ t) in
      (leb-true _ _ r.0, leb-true _ _ r.1)

  digit_is : x < 58 → is_digit x ≡ true
  digit_is h = by-test (is_digit x) (λ d. d) (λ f. absurd (omega (arith, (letter_range f).0)))

  pub digit_low : x < 58 → (48 ≤ x) × (x - 48 ≡ hex_digit x)
  unfolding hex_digit
  digit_low h = ((digit_range x (digit_is h)).0, rw (digit_is h))

  pub digit_high : 58 ≤ x → (97 ≤ x) × (x ≤ 102) × (x - 87 ≡ hex_digit x)
  unfolding hex_digit
  digit_high h =
      let r = letter_range (digit_not h) in
      (r.0, r.1, rw (digit_not h))

hex_cons : (n x : ℕ) (v : List ℕ) → hex_from n (x ∷ v) ≡ hex_from (n * 16 + hex_digit x) v
unfolding hex_from
hex_cons n x v = refl

-- the turns of a loop along v
pub hex_next : (n : ℕ) (v : List ℕ) (i : ℕ) → i < length v → hex_from n (drop i v) ≡ hex_from (n * 16 + hex_digit (get_or v i 0)) (drop (i + 1) v)
hex_next n v i h = rw (drop_next v i 0 h, hex_cons)

pub hex_end : (n : ℕ) (v : List ℕ) (i : ℕ) → length v ≤ i → hex_from n (drop i v) ≡ n
unfolding hex_from
hex_end n v i h = rw (drop_of_length-le v h)

-- fewer than eight digits write a number below 2 ^ 28
pub hex_room : (n i : ℕ) → n < 16 ^ i → i < 8 → n < 268435456
hex_room n i h l =
    let g : i ≤ 7 = omega arith in
    let m : 16 ^ i ≤ 16 ^ 7 = pow-le-pow_right (omega arith) g in
    omega arith

pub hex_more : (n i d : ℕ) → n < 16 ^ i → d < 16 → n * 16 + d < 16 ^ (i + 1)
hex_more n i d h l = rw add-one (omega arith)

module _ (v : List ℕ) (t : dummy_sound v ≡ true) where
  pub dummy_long : length v ≡ 8
  unfolding dummy_sound
  dummy_long = eqb-true _ _ (and_parts (eqb (length v) 8) _ t).0

  pub dummy_digit : (i : ℕ) → i < length v → is_hex_digit (get_or v i 0) ≡ true
  unfolding dummy_sound
  dummy_digit i h = every_true is_hex_digit v (and_parts (eqb (length v) 8) _ t).1 i h

-- ---- dummies, jump tables, sizes of first glabels

module _ (B : List ℕ) where
  value_dummy : (v : List ℕ) → value_sound KEY_DUMMY v ≡ dummy_sound v
  unfolding value_sound keys
  value_dummy v = refl

  pub dummy_sound_lem : (a : ℕ) (v : List ℕ) → v ≡ value_at B KEY_DUMMY a → is_key_line B KEY_DUMMY a ≡ true → dummy_sound v ≡ true
  dummy_sound_lem a v e t = rw e (sym (value_dummy (value_at B KEY_DUMMY a)) ∙ key_line_sound B KEY_DUMMY a t)

  module _ (i : ℕ) (h : i < block_count B) where
    pub jump_line : (a : ℕ) → a ≡ group_at B (block_at B i) KEY_JTBL → is_key_line B KEY_JTBL a ≡ true
    unfolding repeats keys
    jump_line a e = rw e (counted_key B i KEY_JTBL h (omega arith) refl)

    module _ (a : ℕ) (v : List ℕ) (e : a ≡ group_at B (block_at B i) KEY_JTBL) (f : v ≡ value_at B KEY_JTBL a) where
      pub jump_digits : (length v ≤ 7) × (every is_digit v ≡ true)
      jump_digits =
          let s = counted_jumps B i h in
          let n = sound_number NUMBER_LIMIT _ s in
          let b = sound_decimal NUMBER_LIMIT _ s in
          rw (f, e) (digits_few _ 7 (omega arith) n (omega arith), number_digits _ n)

      pub jump_read : (r : ℕ) → r ≡ decimal v → (r ≡ jump_table B i) × (r ≤ NUMBER_LIMIT)
      unfolding jump_table
      jump_read r q =
          let x : r ≡ decimal (value_at B KEY_JTBL (group_at B (block_at B i) KEY_JTBL)) = rw (← e, ← f) q in
          (x, rw x (sound_decimal NUMBER_LIMIT _ (counted_jumps B i h)))

module _ (P : List Place) (B : List ℕ) (i : ℕ) where
  pub sized_taken : (a : ℕ) (r : Bool) → taken P (line_of i TEXT) ≡ true → a ≡ group_at B (block_at B i) KEY_GLABEL → r ≡ is_key_line B KEY_GLABEL a → r ≡ sized P B i
  unfolding sized
  sized_taken a r t e f = rw (t, ← e) f

  pub sized_not : taken P (line_of i TEXT) ≡ false → false ≡ sized P B i
  unfolding sized
  sized_not t = rw t
