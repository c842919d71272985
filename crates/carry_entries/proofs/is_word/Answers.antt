-- An offset in the span of row r is in no other. Assumes nothing.
use native.Mathlib.Omega.{arith}
use Rattle.carry_entries.proofs.Goals.{word_in}
use Rattle.carry_entries.proofs.is_word.Goals as goal

pub span_at-s-requires : goal.span_at-s-requires
span_at-s-requires c =
    let p = c.requires in
    (omega (arith, p.fits), omega (arith, p.few))

pub returns-then-x-s : goal.returns-then-x-s
returns-then-x-s c =
    let if1 = c.if-r-n in
    let span-at = c.span_at-s in
    let if2 = c.if-s-x in
    let if3 = c.if-x-s in
    let a = c.args in
    word_in a.rows.now a.n c.requires a.r if1.true _ span-at.ensures.0 a.x if2.true if3.true

pub is_replaced-requires : goal.is_replaced-requires
is_replaced-requires c = c.requires

pub returns : goal.returns
returns c = c.is_replaced.ensures
