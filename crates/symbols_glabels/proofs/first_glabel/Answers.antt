-- The group `glabel=` of the block starts where its row says, with the first glabel. Assumes nothing.
use Rattle.blocks_lines.specs.Keys.{KEY_GLABEL}
use Rattle.blocks_file.specs.Blocks.{group_at, block_at}
use Rattle.blocks_file.proofs.Table.{parsed_inside, group_in_lem}
use Rattle.symbols_glabels.proofs.Words.{first_line_lem}
use native.Mathlib.Omega.{arith}
use mathlib.Core.Path.{◌≡◌, ◌∙◌}
use Rattle.symbols_glabels.proofs.first_glabel.Goals as goal

pub group_start-at-requires : goal.group_start-at-requires
group_start-at-requires c =
    let r = parsed_inside c.args.file.now c.args.table.now c.requires.0 c.args.i c.requires.1 in
    (r.0, r.1, omega arith)

pub value_at-requires : goal.value_at-requires
value_at-requires c =
    let a = c.args in
    let e : c.group_start-at.result ≡ group_at a.file.now (block_at a.file.now a.i) KEY_GLABEL = c.group_start-at.ensures.0 ∙ group_in_lem a.file.now a.table.now c.requires.0 a.i KEY_GLABEL c.requires.1 (omega arith) in
    (omega arith, rw e c.requires.2)

pub returns : goal.returns
returns c =
    let a = c.args in
    let g = c.group_start-at in
    c.value_at.ensures ∙ first_line_lem a.file.now a.i g.result (g.ensures.0 ∙ group_in_lem a.file.now a.table.now c.requires.0 a.i KEY_GLABEL c.requires.1 (omega arith))
