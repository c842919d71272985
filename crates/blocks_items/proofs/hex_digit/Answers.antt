-- `blocks_items::hex_digit` meets its contract: a hex digit below 58 is a decimal one, and another is a letter. Assumes nothing.
use Rattle.blocks_items.proofs.Items.{digit_low, digit_high}
use native.Mathlib.Omega.{arith}
use Rattle.blocks_items.proofs.hex_digit.Goals as goal

pub overflow_sub-result : goal.overflow_sub-result
overflow_sub-result c = omega (arith, (digit_low c.args.x c.requires c.if-x-lt58.true).0)

pub returns-then-x-lt58 : goal.returns-then-x-lt58
returns-then-x-lt58 c = ((digit_low c.args.x c.requires c.if-x-lt58.true).1, omega arith)

pub overflow_sub-result-2 : goal.overflow_sub-result-2
overflow_sub-result-2 c = omega (arith, (digit_high c.args.x c.requires (omega arith)).0)

pub returns : goal.returns
returns c =
    let d = digit_high c.args.x c.requires (omega arith) in
    (d.2, omega (arith, d.1))
