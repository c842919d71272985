-- A block that stays on has a late line exactly where one stands at the start of its group, and one that is switched off counts as having none. Assumes nothing.
use lib.Dec.{lit≤}
use Rattle.blocks_file.proofs.Table.{group_in_lem, parsed_inside}
use Rattle.draft_text.proofs.Late.{late_live, late_off}
use mathlib.Core.Path.{sym, ◌∙◌}
use Rattle.draft_text.proofs.has_late.Goals as goal

pub group_start-from-requires : goal.group_start-from-requires
group_start-from-requires c =
    let a = c.args in
    let q = parsed_inside a.file.now a.table.now c.requires.0.parsed a.i c.requires.1 in
    (q.0, q.1, lit≤ tt)

pub returns-then-is_live : goal.returns-then-is_live
returns-then-is_live c =
    let a = c.args in
    let q = c.requires in
    c.is_key_line.ensures
    ∙ late_live _ a.file.now a.i c.group_start-from.result (sym c.is_live.ensures ∙ c.if-is_live.true)
    (c.group_start-from.ensures.0 ∙ group_in_lem a.file.now a.table.now q.0.parsed a.i _ q.1 (lit≤ tt))

pub returns : goal.returns
returns c = late_off _ c.args.file.now c.args.i (sym c.is_live.ensures ∙ c.if-is_live.false)
