-- `blocks_items::dummy_word` meets its contract: line k of the group is a line of its key, and lies in the file. Assumes nothing.
use Rattle.blocks_file.proofs.Table.{parsed_inside}
use Rattle.blocks_items.proofs.Items.{dummy_sound_lem}
use Rattle.blocks_items.proofs.DummyLines.{word_line, word_read, word_inside}
use native.Mathlib.Omega.{arith}
use Rattle.blocks_items.proofs.dummy_word.Goals as goal

pub group_start-start-requires : goal.group_start-start-requires
group_start-start-requires c =
    let r = parsed_inside c.args.file.now c.args.table.now c.requires.0 c.args.i c.requires.1 in
    (r.0, r.1, omega arith)

pub overflow_mul-k : goal.overflow_mul-k
overflow_mul-k c =
    let a = c.args in
    omega (arith, word_inside a.file.now a.table.now c.requires.0 a.i c.requires.1 a.k c.group_start-start.result c.requires.2 c.group_start-start.ensures.0, c.requires.0.small)

pub overflow_add-start : goal.overflow_add-start
overflow_add-start c =
    let a = c.args in
    omega (arith, word_inside a.file.now a.table.now c.requires.0 a.i c.requires.1 a.k c.group_start-start.result c.requires.2 c.group_start-start.ensures.0, c.requires.0.small)

pub value_at-requires : goal.value_at-requires
value_at-requires c =
    let a = c.args in
    (omega arith, word_line a.file.now a.table.now c.requires.0 a.i c.requires.1 a.k c.group_start-start.result c.requires.2 c.group_start-start.ensures.0)

pub hex_of-requires : goal.hex_of-requires
hex_of-requires c =
    let a = c.args in
    let g = c.group_start-start in
    dummy_sound_lem a.file.now _ c.value_at.result.now c.value_at.ensures
    (word_line a.file.now a.table.now c.requires.0 a.i c.requires.1 a.k g.result c.requires.2 g.ensures.0)

pub returns : goal.returns
returns c =
    let a = c.args in
    let g = c.group_start-start in
    word_read a.file.now a.table.now c.requires.0 a.i c.requires.1 a.k g.result c.requires.2 g.ensures.0 c.value_at.result.now c.hex_of.result c.value_at.ensures c.hex_of.ensures
