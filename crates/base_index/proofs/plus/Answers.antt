-- A sum below its first term has come over 2 ^ 64. Assumes nothing.
use Rattle.std.proofs.Common.{◌≡◌, ℕ, ◌+◌, ◌%◌, ap, arith}
use Rattle.base_index.specs.Index.{ROUND}
use Rattle.base_index.proofs.Hashes.{plus_over}
use Rattle.base_index.proofs.plus.Goals as goal

pub overflow_add-result : goal.overflow_add-result
overflow_add-result c = record { fits = omega arith }

pub returns-then-sum-a : goal.returns-then-sum-a
returns-then-sum-a c =
    let a = c.args in
    let s = c.wrapping_add_u64-sum in
    plus_over a.a a.b s.result (omega (arith, s.ensures))

pub returns : goal.returns
returns c =
    let a = c.args in
    let s = c.wrapping_add_u64-sum in
    let e : s.result ≡ a.a + a.b = omega (arith, s.ensures) in
    ap (λ (k : ℕ). k % ROUND) e
