-- By the symbol first: where it is in the result, by the late word; else by the word that is written anew. Assumes nothing.
use Rattle.carry_entries.proofs.Goals.{goal_moves, lost_never, lost_unmoved, lost_stuck, lost_gone}
use Rattle.carry_entries.proofs.is_lost.Goals as goal

pub symbol_of-requires : goal.symbol_of-requires
symbol_of-requires c = c.requires.2

pub returns-then-side : goal.returns-then-side
returns-then-side c =
    let symbol-of = c.symbol_of in
    let is-in-result = c.is_in_result in
    let if1 = c.if-is_in_result in
    let a = c.args in
    lost_never a.side a.rows.now a.late.now a.numbers.now a.code a.entry _ symbol-of.ensures _ is-in-result.ensures if1.true c.if-side.true

pub returns-then-code-ne-LATE_RODATA : goal.returns-then-code-ne-LATE_RODATA
returns-then-code-ne-LATE_RODATA c =
    let symbol-of = c.symbol_of in
    let is-in-result = c.is_in_result in
    let if1 = c.if-is_in_result in
    let a = c.args in
    lost_unmoved a.side a.rows.now a.late.now a.numbers.now a.code a.entry _ symbol-of.ensures _ is-in-result.ensures if1.true c.if-side.false c.if-code-ne-LATE_RODATA.true

pub goal_of-requires : goal.goal_of-requires
goal_of-requires c =
    rw c.moves_of.ensures (c.requires.0, c.requires.1)

pub returns-then-is_in_result : goal.returns-then-is_in_result
returns-then-is_in_result c =
    let a = c.args in
    let goal = goal_moves a.side _ c.moves_of.ensures a.rows.now a.late.now a.code a.entry.r_offset _ c.goal_of.ensures in
    lost_stuck a.side a.rows.now a.late.now a.numbers.now a.code a.entry _ c.symbol_of.ensures _ c.is_in_result.ensures c.if-is_in_result.true _ goal _
    c.is_stuck.ensures

pub goal_of-requires-2 : goal.goal_of-requires-2
goal_of-requires-2 c =
    rw c.moves_of-2.ensures (c.requires.0, c.requires.1)

pub returns : goal.returns
returns c =
    let a = c.args in
    let goal = goal_moves a.side _ c.moves_of-2.ensures a.rows.now a.late.now a.code a.entry.r_offset _ c.goal_of-2.ensures in
    lost_gone a.side a.rows.now a.late.now a.numbers.now a.code a.entry _ c.symbol_of.ensures _ c.is_in_result.ensures c.if-is_in_result.false _ goal _
    c.is_left_out.ensures
