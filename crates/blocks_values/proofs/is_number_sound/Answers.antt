-- `blocks_values::is_number_sound` meets its contract: of a number with at most seven digits the value is compared, and more digits write a number
-- above the limit (`sound_long`). Assumes nothing.
use Rattle.blocks_values.proofs.Values.{sound_not, sound_is, sound_long, number_digits}
use native.Mathlib.Omega.{arith}
use Prim.Native.Nat.{ℕ}
use mathlib.Core.Path.{sym, ap, ◌∙◌}
use lib.Dec.{leb}
use Rattle.blocks_values.proofs.is_number_sound.Goals as goal

pub returns-then-v-gt7 : goal.returns-then-v-gt7
returns-then-v-gt7 c =
    let t = sym c.is_number.ensures ∙ c.if-is_number.true in
    sym (sound_long c.args.limit c.args.v.now c.requires t (omega arith))

pub decimal_of-requires : goal.decimal_of-requires
decimal_of-requires c =
    let t = sym c.is_number.ensures ∙ c.if-is_number.true in
    (omega arith, number_digits c.args.v.now t)

pub returns-then-is_number : goal.returns-then-is_number
returns-then-is_number c =
    let a = c.args in
    ap (λ (n : ℕ). leb n a.limit) c.decimal_of.ensures
    ∙ sym (sound_is a.limit a.v.now (sym c.is_number.ensures ∙ c.if-is_number.true))

pub returns : goal.returns
returns c =
    let a = c.args in
    sym (sound_not a.limit a.v.now (sym c.is_number.ensures ∙ c.if-is_number.false))
