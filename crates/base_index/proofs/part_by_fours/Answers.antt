-- The last four bytes hold the others above those that the first four have. Assumes nothing.
use Rattle.std.proofs.Common.{◌-◌, ◌*◌, ◌/◌, ◌^◌, ◌≤◌, length, ◌∙◌, arith}
use lib.Pow.{shr_le}
use Rattle.base_index.proofs.Numbers.{upper_four, word_four}
use Rattle.base_index.proofs.part_by_fours.Goals as goal
use Rattle.base_index.proofs.part_by_fours.Goals.{After-read32-last}

-- a shifted number is no longer than it was
low : (c : After-read32-last) → c.read32-last.result / 2 ^ (8 * (8 - length c.args.s.now)) ≤ c.read32-last.result
low c = shr_le c.read32-last.result (8 * (8 - length c.args.s.now))

pub read32-first-requires : goal.read32-first-requires
read32-first-requires c = omega (arith, c.requires.0)

pub overflow_sub-n : goal.overflow_sub-n
overflow_sub-n c = c.requires.0

pub read32-last-requires : goal.read32-last-requires
read32-last-requires c = omega (arith, c.requires.0)

pub overflow_sub-result : goal.overflow_sub-result
overflow_sub-result c = omega (arith, c.requires.1)

pub overflow_mul-result : goal.overflow_mul-result
overflow_mul-result c = record { fits = omega arith }

pub overflow_shr-result : goal.overflow_shr-result
overflow_shr-result c = omega (arith, c.requires.0)

pub overflow_mul-result-2 : goal.overflow_mul-result-2
overflow_mul-result-2 c = record { fits = omega (arith, low (goal.at.overflow_mul-result-2 c).After-read32-last) }

pub overflow_add-result : goal.overflow_add-result
overflow_add-result c = record { fits = omega (arith, low (goal.at.overflow_add-result c).After-read32-last) }

pub returns : goal.returns
returns c =
    let s = c.args.s.now in
    upper_four s (λ i. omega (arith, c.type_inv.s i)) (length s) c.read32-first.result c.read32-last.result c.requires.0 c.requires.1
    (c.read32-first.ensures ∙ word_four s 0 c.requires.0)
    (c.read32-last.ensures ∙ word_four s (length s - 4) (omega (arith, c.requires.0)))
