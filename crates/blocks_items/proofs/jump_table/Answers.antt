-- `blocks_items::jump_table` meets its contract: a counted block has a sound line `jtbl=`, so its number has at most seven digits and is at most the limit of
-- numbers. Assumes nothing.
use Rattle.blocks_lines.specs.Keys.{KEY_JTBL}
use Rattle.blocks_file.proofs.Table.{parsed_inside, group_in_lem}
use Rattle.blocks_items.proofs.Items.{jump_line, jump_digits, jump_read}
use mathlib.Core.Path.{◌∙◌}
use native.Mathlib.Omega.{arith}
use Rattle.blocks_items.proofs.jump_table.Goals as goal

pub group_start-at-requires : goal.group_start-at-requires
group_start-at-requires c =
    let r = parsed_inside c.args.file.now c.args.table.now c.requires.0 c.args.i c.requires.1 in
    (r.0, r.1, omega arith)

pub value_at-requires : goal.value_at-requires
value_at-requires c =
    let a = c.args in
    let g = c.group_start-at in
    (omega arith, jump_line a.file.now a.i c.requires.1 g.result (g.ensures.0 ∙ group_in_lem a.file.now a.table.now c.requires.0 a.i KEY_JTBL c.requires.1 (omega arith)))

pub decimal_of-requires : goal.decimal_of-requires
decimal_of-requires c =
    let a = c.args in
    let g = c.group_start-at in
    let v = c.value_at in
    jump_digits a.file.now a.i c.requires.1 g.result v.result.now (g.ensures.0 ∙ group_in_lem a.file.now a.table.now c.requires.0 a.i KEY_JTBL c.requires.1 (omega arith)) v.ensures

pub returns : goal.returns
returns c =
    let a = c.args in
    let g = c.group_start-at in
    let v = c.value_at in
    let d = c.decimal_of in
    jump_read a.file.now a.i c.requires.1 g.result v.result.now (g.ensures.0 ∙ group_in_lem a.file.now a.table.now c.requires.0 a.i KEY_JTBL c.requires.1 (omega arith)) v.ensures d.result d.ensures
