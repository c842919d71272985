-- `blocks_items::hex_of` meets its contract: n is what the digits before x write, so that n and the digits from x on write the word of v; with eight
-- digits nothing overflows. Assumes nothing.
use Rattle.blocks_items.specs.Items.{hex_from}
use Rattle.blocks_items.proofs.Items.{hex_next, hex_end, hex_room, hex_more, dummy_long, dummy_digit}
use Prim.Native.Nat.{ℕ, ◌+◌, ◌*◌}
use native.Mathlib.Omega.{arith}
use mathlib.Core.Path.{refl, sym, ap, ◌∙◌}
use lib.ListN.{drop}
use Rattle.blocks_items.proofs.hex_of.Goals as goal

pub loop-x-init : goal.loop-x-init
loop-x-init c = (omega arith, omega arith, refl)

pub overflow_mul-n : goal.overflow_mul-n
overflow_mul-n c =
    let l = c.loop-x in
    let e = dummy_long c.args.v.now c.requires in
    omega (arith, hex_room l.n l.x-index l.invariant.1 (omega arith))

pub hex_digit-requires : goal.hex_digit-requires
hex_digit-requires c =
    dummy_digit c.args.v.now c.requires c.loop-x.x-index (omega arith)

pub overflow_add-n : goal.overflow_add-n
overflow_add-n c =
    let l = c.loop-x in
    let e = dummy_long c.args.v.now c.requires in
    omega (arith, hex_room l.n l.x-index l.invariant.1 (omega arith), c.hex_digit.ensures.1)

pub loop-x-preserved : goal.loop-x-preserved
loop-x-preserved c =
    let v = c.args.v.now in
    let l = c.loop-x in
    let d = c.hex_digit in (
      omega arith,
      hex_more l.n l.x-index d.result l.invariant.1 d.ensures.1,
      l.invariant.2
          ∙ hex_next l.n v l.x-index (omega arith)
          ∙ ap (λ (x : ℕ). hex_from (l.n * 16 + x) (drop (l.x-index + 1) v)) (sym d.ensures.0),
    )

pub returns : goal.returns
returns c =
    let v = c.args.v.now in
    let l = c.loop-x in
    sym (l.invariant.2 ∙ hex_end l.n v l.x-index (omega arith))
