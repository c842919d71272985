-- The names of the lines passed are marked, and these lines and the group from the line reached are the group. Assumes nothing.
use Rattle.blocks_lines.specs.Keys.{KEY_GLABEL, is_key_line}
use Rattle.symbols_glabels.specs.Words.{is_among}
use Rattle.symbols_glabels.proofs.Groups.{key_line_turn, turned_none, turned_next, turned_end}
use Rattle.symbols_glabels.proofs.Marks.{uniform_marked}
use native.Mathlib.Omega.{arith}
use Prim.Native.Nat.{ℕ, ◌+◌, ◌-◌}
use mathlib.Core.Path.{◌≡◌, sym, ap, ◌∙◌}
use mathlib.Core.Bool.{true}
use Rattle.symbols_glabels.proofs.mark_group.Goals as goal

pub loop-order-init : goal.loop-order-init
loop-order-init c =
    let a = c.args in
    (omega (arith, c.requires.2), 0, turned_none a.order a.assembled.now a.file.now a.from a.marks.now)

pub mark_line-requires : goal.mark_line-requires
mark_line-requires c =
    let a = c.args in
    let l = c.loop-order in (
      c.requires.0,
      c.requires.1,
      sym c.is_key_line.ensures ∙ c.loop-order-test.true,
      uniform_marked a.order a.assembled.now (λ name. is_among a.file.now a.from name l.invariant.1) 0 a.marks.now l.marks c.requires.3 l.invariant.2.marked,
    )

pub overflow_add-at : goal.overflow_add-at
overflow_add-at c =
    let a = c.args in
    let l = c.loop-order in
    let t : is_key_line a.file.now KEY_GLABEL l.at ≡ true = sym c.is_key_line.ensures ∙ c.loop-order-test.true in
    omega (arith, c.line_end-at.ensures, key_line_turn a.file.now KEY_GLABEL l.at t)

pub loop-order-smaller : goal.loop-order-smaller
loop-order-smaller c =
    let a = c.args in
    let l = c.loop-order in
    let t : is_key_line a.file.now KEY_GLABEL l.at ≡ true = sym c.is_key_line.ensures ∙ c.loop-order-test.true in
    omega (arith, c.line_end-at.ensures, key_line_turn a.file.now KEY_GLABEL l.at t)

pub loop-order-preserved : goal.loop-order-preserved
loop-order-preserved c =
    let a = c.args in
    let l = c.loop-order in
    let t : is_key_line a.file.now KEY_GLABEL l.at ≡ true = sym c.is_key_line.ensures ∙ c.loop-order-test.true in (
      omega (arith, c.line_end-at.ensures, key_line_turn a.file.now KEY_GLABEL l.at t),
      l.invariant.1 + 1,
      turned_next a.order a.assembled.now a.file.now a.from a.marks.now l.marks _ l.at (c.line_end-at.result + 1) l.invariant.1 t
          (ap (λ (e : ℕ). e + 1) c.line_end-at.ensures) l.invariant.2 c.mark_line.ensures,
    )

pub shape_of-marks : goal.shape_of-marks
shape_of-marks c = c.loop-order.invariant.2.marked.long

pub returns : goal.returns
returns c =
    let a = c.args in
    let l = c.loop-order in
    turned_end a.order a.assembled.now a.file.now a.from a.marks.now l.marks l.at l.invariant.1 (sym c.is_key_line.ensures ∙ c.loop-order-test.false) l.invariant.2
