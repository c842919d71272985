-- `blocks_values::decimal_of` meets its contract: n is what the digits before x write, so that n and the digits from x on write the number of v; with at
-- most seven digits nothing overflows. Assumes nothing.
use Rattle.base_text.specs.Decimals.{decimal_from}
use Rattle.blocks_values.proofs.Values.{digit_at, decimal_next, decimal_end, digits_room, digits_more}
use Prim.Native.Nat.{ℕ, ◌+◌, ◌-◌, ◌*◌}
use native.Mathlib.Omega.{arith}
use mathlib.Core.Path.{refl, sym, ap, ◌∙◌}
use lib.ListN.{drop}
use Rattle.blocks_values.proofs.decimal_of.Goals as goal

pub loop-x-init : goal.loop-x-init
loop-x-init c = (omega arith, omega arith, refl)

pub overflow_mul-n : goal.overflow_mul-n
overflow_mul-n c =
    let l = c.loop-x in
    omega (arith, digits_room l.n l.x-index l.invariant.1 (omega arith))

pub overflow_sub-n : goal.overflow_sub-n
overflow_sub-n c =
    omega (arith, digit_at c.args.v.now c.loop-x.x-index c.requires.1 (omega arith))

pub overflow_add-n : goal.overflow_add-n
overflow_add-n c =
    let l = c.loop-x in
    omega (arith, digits_room l.n l.x-index l.invariant.1 (omega arith))

pub loop-x-preserved : goal.loop-x-preserved
loop-x-preserved c =
    let v = c.args.v.now in
    let l = c.loop-x in
    let w = c.byte_value in
    let d = digit_at v l.x-index c.requires.1 (omega arith) in (
      omega arith,
      digits_more l.n l.x-index w.result l.invariant.1 (omega arith),
      l.invariant.2
          ∙ decimal_next l.n v l.x-index (omega arith)
          ∙ ap (λ (x : ℕ). decimal_from (l.n * 10 + (x - 48)) (drop (l.x-index + 1) v)) (sym w.ensures.0),
    )

pub returns : goal.returns
returns c =
    let v = c.args.v.now in
    let l = c.loop-x in
    sym (l.invariant.2 ∙ decimal_end l.n v l.x-index (omega arith))
