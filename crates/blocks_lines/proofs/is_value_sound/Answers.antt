-- `blocks_lines::is_value_sound` meets its contract: each arm of the match is a row, or a range of rows, of the table. Assumes nothing.
use Rattle.blocks_lines.specs.Keys.{keys, value_sound}
use Rattle.blocks_values.specs.Values.{jump_table_sound, empty_sound, any_sound}
use Rattle.blocks_lines.proofs.Keys.{value_section, value_late}
use native.Mathlib.Omega.{arith}
use Prim.Native.Nat.{ℕ}
use mathlib.Core.Path.{◌≡◌, sym, ap, ◌∙◌}
use Rattle.blocks_lines.proofs.is_value_sound.Goals as goal

pub returns-in-5 : goal.returns-in-5
unfolding value_sound keys
returns-in-5 c =
    let e : c.args.k ≡ 5 = omega arith in
    c.is_label_sound.ensures ∙ ap (λ (j : ℕ). value_sound j c.args.v.now) (sym e)

pub returns-in-6 : goal.returns-in-6
unfolding value_sound keys
returns-in-6 c =
    let e : c.args.k ≡ 6 = omega arith in
    c.is_dummy_sound.ensures ∙ ap (λ (j : ℕ). value_sound j c.args.v.now) (sym e)

pub returns-in-7 : goal.returns-in-7
unfolding value_sound keys jump_table_sound
returns-in-7 c =
    let e : c.args.k ≡ 7 = omega arith in
    c.is_number_sound.ensures ∙ ap (λ (j : ℕ). value_sound j c.args.v.now) (sym e)

pub returns-in-10 : goal.returns-in-10
unfolding value_sound keys empty_sound
returns-in-10 c =
    let e : c.args.k ≡ 10 = omega arith in
    ap (λ (j : ℕ). value_sound j c.args.v.now) (sym e)

pub returns-in-1 : goal.returns-in-1
returns-in-1 c =
    let a = c.args in
    c.is_line_sound.ensures ∙ sym (value_section a.k a.v.now (omega arith) (omega arith))

pub returns-in_default : goal.returns-in_default
unfolding value_sound keys any_sound
returns-in_default c =
    let e : c.args.k ≡ 0 = omega arith in
    ap (λ (j : ℕ). value_sound j c.args.v.now) (sym e)

pub returns-in_default-2 : goal.returns-in_default-2
returns-in_default-2 c =
    let a = c.args in
    sym (value_late a.k a.v.now (omega arith) (omega arith))
