-- In the late target, by the table of the late step where it runs. Assumes nothing.
use Rattle.base_scope.specs.Codes.{is_late_target}
use Rattle.carry_entries.proofs.Goals.{and_left, and_then, and_both}
use Rattle.carry_entries.proofs.is_jump.Goals as goal

pub jump_at-requires : goal.jump_at-requires
jump_at-requires c = c.requires c.if-moves.true

pub returns-then-moves : goal.returns-then-moves
returns-then-moves c =
    let is-late-target = c.is_late_target in
    let if1 = c.if-is_late_target in
    let if2 = c.if-moves in
    let jump-at = c.jump_at in
    and_both _ (is_late_target c.args.code) _ _ _ is-late-target.ensures if1.true if2.true jump-at.ensures

pub returns-then-is_late_target : goal.returns-then-is_late_target
returns-then-is_late_target c =
    let is-late-target = c.is_late_target in
    let if1 = c.if-is_late_target in
    let if2 = c.if-moves in
    and_then _ (is_late_target c.args.code) _ _ is-late-target.ensures if1.true if2.false

pub returns : goal.returns
returns c = and_left _ (is_late_target c.args.code) _ c.is_late_target.ensures c.if-is_late_target.false
