-- Of the code, not of document 01: where a byte stands first, looked for in words of eight bytes, the first byte the lowest.
use Rattle.std.specs.Prelude.{ℕ, zero, suc, ◌+◌, ◌*◌, Bool, List, length, get_or, eqb}
use Rattle.std.specs.Int.Bits.{bit_and, bit_or, bit_xor}
use Rattle.base_lists.specs.Ranges.{first}

-- byte i is x
unfoldable pub byte_at : List ℕ → ℕ → ℕ → Bool
byte_at t x i = eqb (get_or t i 0) x

-- the first x from a on, or the end
unfoldable pub first_byte : List ℕ → ℕ → ℕ → ℕ
first_byte t x a = first (byte_at t x) a (length t)

-- the number of the n bytes at a
unfoldable pub word_at : List ℕ → ℕ → ℕ → ℕ
word_at t a zero = 0
word_at t a (suc n) = word_at t (a + 1) n * 256 + get_or t a 0

-- n bytes b
unfoldable pub bytes_of : ℕ → ℕ → ℕ
bytes_of b zero = 0
bytes_of b (suc n) = bytes_of b n * 256 + b

-- where a byte of y is zero, of n: 128 in its place. No sum of two bytes is carried into the next.
unfoldable pub zero_marks : ℕ → ℕ → ℕ
zero_marks n y = bit_and (bit_xor (bit_or (bit_and y (bytes_of 127 n) + bytes_of 127 n) y) (bytes_of 255 n)) (bytes_of 128 n)

-- where a byte of w is x
unfoldable pub byte_marks : ℕ → ℕ → ℕ → ℕ
byte_marks x n w = zero_marks n (bit_xor w (bytes_of x n))
