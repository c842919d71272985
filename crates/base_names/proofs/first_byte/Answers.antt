-- The byte is in no word passed over, so the first from i on is the first from `at` on; the loop stops at a word that has it, whose lowest mark is the first, or
-- near the end. Assumes nothing.
use native.Mathlib.Omega.{arith}
use Prim.Native.Nat.{◌-◌}
use mathlib.Core.Path.{◌≡◌, refl, sym, ap, ◌∙◌}
use Rattle.base_names.specs.Words.{word_at, byte_marks}
use Rattle.base_names.proofs.Words.{byte_past, found_none, found}
use Rattle.base_names.proofs.first_byte.Goals as goal
use Rattle.base_names.proofs.first_byte.Goals.{After-byte_marks-marks}

-- the marks of the word at i
marked : (c : After-byte_marks-marks)
    → c.byte_marks-marks.result
    ≡ byte_marks c.args.byte 8
    (word_at c.args.t.now c.loop-i.i 8)
marked c = c.byte_marks-marks.ensures ∙ ap (byte_marks c.args.byte 8) c.word_at.ensures

pub loop-i-init : goal.loop-i-init
loop-i-init c = refl

pub returns-then-t-i-lt8 : goal.returns-then-t-i-lt8
returns-then-t-i-lt8 c = c.first_by_bytes.ensures ∙ sym c.loop-i.invariant

pub word_at-requires : goal.word_at-requires
word_at-requires c = omega arith

pub overflow_add-result : goal.overflow_add-result
overflow_add-result c =
    let a = c.args in
    let l = c.loop-i in
    let known = c.type_inv.t in
    let m = c.byte_marks-marks in
    omega (arith, (found a.t.now a.byte (λ i. omega (arith, known i)) (omega arith) l.i m.result (omega arith) (marked (goal.at.overflow_add-result c).After-byte_marks-marks) c.if-marks-ne0.true c.first_mark.result c.first_mark.ensures).1)

pub returns-then-marks-ne0 : goal.returns-then-marks-ne0
returns-then-marks-ne0 c =
    let a = c.args in
    let l = c.loop-i in
    let known = c.type_inv.t in
    let m = c.byte_marks-marks in
    sym (l.invariant ∙ (found a.t.now a.byte (λ i. omega (arith, known i)) (omega arith) l.i m.result (omega arith) (marked (goal.at.returns-then-marks-ne0 c).After-byte_marks-marks) c.if-marks-ne0.true c.first_mark.result c.first_mark.ensures).0)

pub loop-i-smaller : goal.loop-i-smaller
loop-i-smaller c = omega arith

pub loop-i-preserved : goal.loop-i-preserved
loop-i-preserved c =
    let a = c.args in
    let l = c.loop-i in
    let known = c.type_inv.t in
    let m = c.byte_marks-marks in
    l.invariant ∙ found_none a.t.now a.byte (λ i. omega (arith, known i)) (omega arith) l.i m.result (omega arith) (marked (goal.at.loop-i-preserved c).After-byte_marks-marks) c.if-marks-ne0.false

pub returns : goal.returns
returns c =
    let a = c.args in
    let l = c.loop-i in
    sym (l.invariant ∙ byte_past a.t.now a.byte l.i (omega arith))
