-- Joined fields: shifting and masking equals multiplying and adding, at any widths; and what was joined comes apart again. Assumes nothing.
use Rattle.std.proofs.Common.{◌≡◌, ℕ, ◌+◌, ◌*◌, ◌%◌, ◌^◌, ◌<◌, ◌≤◌, arith, shl_exact}
use lib.Bits.{bit_or, or_shifted}
use lib.Pow.{high, low, split}
use Rattle.base_packed.specs.Packed.{symbol_of, kind_of, relocation_info, binding_of, type_of, symbol_info}

-- x of j bits above y of k bits, in a word of w bits
pub joined : (j k w x y : ℕ) → x < 2 ^ j → y < 2 ^ k → j + k ≤ w → bit_or (x * 2 ^ k % 2 ^ w) y ≡ x * 2 ^ k + y
joined j k w x y hx hy h = rw (shl_exact j k w hx h) (or_shifted x k y hy)

-- r_info, joined and taken apart
pub symbol_join : (s k : ℕ) → k < 2 ^ 8 → symbol_of (relocation_info s k) ≡ s
symbol_join s k h = high s 8 h

pub kind_join : (s k : ℕ) → k < 2 ^ 8 → kind_of (relocation_info s k) ≡ k
kind_join s k h = low s 8 h

pub info_split : (n : ℕ) → relocation_info (symbol_of n) (kind_of n) ≡ n
info_split n = split n 8

-- st_info, joined and taken apart
pub binding_join : (b t : ℕ) → t < 2 ^ 4 → binding_of (symbol_info b t) ≡ b
binding_join b t h = high b 4 h

pub type_join : (b t : ℕ) → t < 2 ^ 4 → type_of (symbol_info b t) ≡ t
type_join b t h = low b 4 h

pub symbol_info_split : (n : ℕ) → symbol_info (binding_of n) (type_of n) ≡ n
symbol_info_split n = split n 4
