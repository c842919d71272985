-- The rests of both go into the sum's. Assumes nothing.
use Rattle.std.proofs.Common.{◌≡◌, ℕ, ◌+◌, ◌%◌, ◌^◌, ap, ◌∙◌, arith}
use Rattle.base_index.proofs.hash_end.Goals as goal

pub returns : goal.returns
returns c =
    let n = c.args.n in
    let x = c.spread.result in
    let e : (x % 65536 + n % 65536) % 65536 ≡ (x + n) % 2 ^ 16 = omega arith in
    e ∙ ap (λ (y : ℕ). (y + n) % 2 ^ 16) c.spread.ensures
