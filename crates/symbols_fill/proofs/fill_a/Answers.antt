-- The invariant is what is left, of the rows so far. Assumes nothing.
use Rattle.elf_symbols.specs.Symbols.{symbol_count}
use Rattle.elf_symbols.proofs.Symbols.{table_count, names_up, names_inside, names_are}
use Rattle.elf_check.proofs.Views.{view_table}
use Rattle.symbols_fill.specs.Fill.{row_a}
use Rattle.symbols_fill.proofs.Filled.{put_none, put_next, put_all}
use native.Mathlib.Omega.{arith}
use Prim.Native.Nat.{◌<◌}
use Rattle.symbols_fill.proofs.fill_a.Goals as goal

pub strings_of-strings-requires : goal.strings_of-strings-requires
strings_of-strings-requires c =
    let a = c.args in
    let t = view_table a.filling.inputs.order a.assembled.now a.filling.inputs.assembled c.requires.0.viewed.is c.requires.0.viewed.tabled in
    (names_up _ _ _ t, names_inside _ _ _ t)

pub loop-k-init : goal.loop-k-init
loop-k-init c =
    let a = c.args in
    (omega arith, put_none (row_a a.assembled.now a.late.now a.filling) a.first a.rows.now)

pub row_a-row-requires : goal.row_a-row-requires
row_a-row-requires c =
    let a = c.args in
    let q = c.requires.0 in
    let t = view_table a.filling.inputs.order a.assembled.now a.filling.inputs.assembled q.viewed.is q.viewed.tabled in
    let low : c.loop-k.k < symbol_count a.filling.inputs.order a.assembled.now = omega (arith, c.loop-k-test.true, table_count _ _ _ t) in
    (record { viewed = q.viewed; table = q.table; small = q.small; below = low }, record { viewed = q.viewed; names = names_are _ _ _ t _ c.strings_of-strings.ensures; marks = q.marks; below = low })

pub overflow_add-first : goal.overflow_add-first
overflow_add-first c =
    let a = c.args in
    let q = c.requires.0 in
    let t = view_table a.filling.inputs.order a.assembled.now a.filling.inputs.assembled q.viewed.is q.viewed.tabled in
    record { fits = omega (arith, c.loop-k-test.true, c.requires.1, q.viewed.tabled.few, table_count _ _ _ t) }

pub write_id-requires : goal.write_id-requires
write_id-requires c =
    let a = c.args in
    let l = c.loop-k in
    let q = c.requires.0 in
    let t = view_table a.filling.inputs.order a.assembled.now a.filling.inputs.assembled q.viewed.is q.viewed.tabled in
    (omega (arith, c.loop-k-test.true, c.requires.2, l.invariant.1.long, table_count _ _ _ t), c.row_a-row.ensures.1)

pub loop-k-preserved : goal.loop-k-preserved
loop-k-preserved c =
    let a = c.args in
    let l = c.loop-k in
    let g = c.loop-k-test.true in
    let q = c.requires.0 in
    let t = view_table a.filling.inputs.order a.assembled.now a.filling.inputs.assembled q.viewed.is q.viewed.tabled in
    let r = c.row_a-row.ensures in
    (omega (arith, g), put_next (row_a a.assembled.now a.late.now a.filling) a.first a.rows.now l.rows _ l.k _ l.invariant.1 (omega (arith, g, c.requires.2, l.invariant.1.long, table_count _ _ _ t)) r.0 r.1.0 c.write_id.ensures)

pub shape_of-rows : goal.shape_of-rows
shape_of-rows c =
    c.loop-k.invariant.1.long

pub returns : goal.returns
returns c =
    let l = c.loop-k in
    let a = c.args in
    let q = c.requires.0 in
    let t = view_table a.filling.inputs.order a.assembled.now a.filling.inputs.assembled q.viewed.is q.viewed.tabled in
    put_all (row_a a.assembled.now a.late.now a.filling) a.first a.rows.now l.rows l.k _ l.invariant.1 (omega (arith, l.invariant.0, c.loop-k-test.false, table_count _ _ _ t))
