-- A block that stays on marks the names of its group `glabel=`; another has no glabels. Assumes nothing.
use Rattle.blocks_lines.specs.Keys.{KEY_GLABEL}
use Rattle.blocks_file.proofs.Blocks.{counted_group}
use Rattle.blocks_file.proofs.Table.{parsed_inside, group_in_lem}
use Rattle.blocks_places.specs.Lines.{line_count}
use Rattle.blocks_places.specs.Table.{places_in}
use Rattle.symbols_glabels.proofs.Groups.{block_live, block_off}
use native.Mathlib.Omega.{arith}
use mathlib.Core.Path.{sym, ◌∙◌}
use Rattle.symbols_glabels.proofs.mark_block.Goals as goal

pub is_live-requires : goal.is_live-requires
is_live-requires c =
    (c.requires.0.laid.parsed, c.requires.0.laid.long, omega (arith, c.requires.1))

pub group_start-from-requires : goal.group_start-from-requires
group_start-from-requires c =
    let r = parsed_inside c.args.file.now c.args.table.now c.requires.0.laid.parsed c.args.i c.requires.1 in
    (r.0, r.1, omega arith)

pub mark_group-requires : goal.mark_group-requires
mark_group-requires c =
    let a = c.args in
    let g = group_in_lem a.file.now a.table.now c.requires.0.laid.parsed a.i KEY_GLABEL c.requires.1 (omega arith) in
    (c.requires.0.symbols, c.requires.0.indexed, omega (arith, c.group_start-from.ensures.0, g, counted_group a.file.now a.i KEY_GLABEL c.requires.1 (omega arith)), c.requires.2)

pub returns-then-is_live : goal.returns-then-is_live
returns-then-is_live c =
    let a = c.args in
    let s = c.group_start-from in
    let g = group_in_lem a.file.now a.table.now c.requires.0.laid.parsed a.i KEY_GLABEL c.requires.1 (omega arith) in
    let t = sym c.is_live.ensures ∙ c.if-is_live.true in
    block_live (places_in a.places.now (line_count a.file.now)) a.file.now a.i a.order a.assembled.now a.marks.now _ s.result t (s.ensures.0 ∙ g) c.mark_group.ensures

pub returns-else-is_live : goal.returns-else-is_live
returns-else-is_live c =
    let a = c.args in
    block_off (places_in a.places.now (line_count a.file.now)) a.file.now a.i a.order a.assembled.now a.marks.now (sym c.is_live.ensures ∙ c.if-is_live.false)
