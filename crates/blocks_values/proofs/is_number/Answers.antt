-- `blocks_values::is_number` meets its contract: no byte writes no number, one digit does, and more do where the first is not 0. Assumes nothing.
use Rattle.blocks_values.proofs.Values.{number_empty, number_one, number_more}
use native.Mathlib.Omega.{arith}
use mathlib.Core.Path.{◌≡◌, sym, ◌∙◌}
use mathlib.Core.Bool.{not, ◌&&◌}
use lib.Dec.{eqb}
use Rattle.blocks_values.specs.Values.{every, is_digit}
use lib.ListN.{get_or}
use Rattle.blocks_values.proofs.is_number.Goals as goal

pub returns-then-v-eq0 : goal.returns-then-v-eq0
returns-then-v-eq0 c = sym (number_empty c.args.v.now c.if-v-eq0.true)

pub returns-then-v-eq1 : goal.returns-then-v-eq1
returns-then-v-eq1 c = c.are_digits.ensures ∙ sym (number_one c.args.v.now c.if-v-eq1.true)

pub returns : goal.returns
returns c =
    let v = c.args.v.now in
    let t : c.both.result ≡ (every is_digit v && not (eqb (get_or v 0 0) 48)) = c.both.ensures ∙ (λ k. c.are_digits-2.ensures k && not (eqb (get_or v 0 0) 48)) in
    t ∙ sym (number_more v (omega arith))
