-- C's entries are left out or stay; A's late ones move. Assumes nothing.
use Rattle.carry_entries.proofs.Goals.{goal_gone, goal_stays, goal_late, goal_same}
use Rattle.carry_entries.proofs.goal_of.Goals as goal

pub returns-then-is_gone : goal.returns-then-is_gone
returns-then-is_gone c =
    let if1 = c.if-moves in
    let is-gone = c.is_gone in
    let if2 = c.if-is_gone in
    let a = c.args in
    goal_gone a.moves a.rows.now a.late.now a.code a.x if1.true _ is-gone.ensures if2.true

pub returns-then-moves : goal.returns-then-moves
returns-then-moves c =
    let if1 = c.if-moves in
    let is-gone = c.is_gone in
    let if2 = c.if-is_gone in
    let a = c.args in
    goal_stays a.moves a.rows.now a.late.now a.code a.x if1.true _ is-gone.ensures if2.false

pub returns-then-code-eq-LATE_RODATA : goal.returns-then-code-eq-LATE_RODATA
returns-then-code-eq-LATE_RODATA c =
    let if1 = c.if-moves in
    let if3 = c.if-code-eq-LATE_RODATA in
    let late-goal = c.late_goal in
    let a = c.args in
    goal_late a.moves a.rows.now a.late.now a.code a.x if1.false if3.true _ late-goal.ensures

pub returns : goal.returns
returns c =
    let if1 = c.if-moves in
    let if3 = c.if-code-eq-LATE_RODATA in
    let a = c.args in
    goal_same a.moves a.rows.now a.late.now a.code a.x if1.false if3.false
