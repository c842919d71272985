-- The .reginfo of the result (document 01, "Merge: ... A's .reginfo is ORed into C's, the shorter length, gp word included"). C and A are the bytes of the two
-- sections, whose lengths may differ. The gp word (ri_gp_value) is the last of the six words of 24 bytes, and no byte is treated apart.
use Rattle.std.specs.Prelude.{ℕ, true, cond, List, length, get_or, ltb}
use Rattle.std.specs.Int.Bits.{bit_or}
use Rattle.base_lists.specs.Ranges.{select}

-- the bits of either byte
unfoldable pub or_byte : ℕ → ℕ → ℕ
or_byte x y = bit_or x y

module _ (C A : List ℕ) where
  -- byte k: C's and A's ORed as far as A's section goes, C's behind it
  unfoldable pub joined_byte : ℕ → ℕ
  joined_byte k = cond (ltb k (length A)) (or_byte (get_or C k 0) (get_or A k 0)) (get_or C k 0)

  -- the section: as long as C's
  unfoldable pub joined : List ℕ
  joined = select (λ k. true) joined_byte (length C)
