-- Both are the same operations; the product puts the byte in each place of a word, and the sum fits, since masked bytes are at most 127. Assumes nothing.
use lib.Bits.{bit_xor, and_le_r}
use native.Mathlib.Omega.{arith}
use Prim.Native.Nat.{ℕ, ◌*◌}
use mathlib.Core.Path.{ap}
use Rattle.base_names.specs.Words.{byte_marks, zero_marks, bytes_of}
use Rattle.base_names.proofs.Words.{bytes_eight}
use Rattle.base_names.proofs.byte_marks.Goals as goal

pub overflow_add-sum : goal.overflow_add-sum
overflow_add-sum c = record { fits = omega (arith, and_le_r (bit_xor c.args.word (c.args.byte * 72340172838076673)) 9187201950435737471) }

pub returns : goal.returns
unfolding byte_marks zero_marks bytes_of
returns c = ap (λ (m : ℕ). zero_marks 8 (bit_xor c.args.word m)) (bytes_eight c.args.byte)
