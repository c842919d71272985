-- The invariant is what is left, of the rows so far. Assumes nothing.
use Rattle.elf_symbols.proofs.Symbols.{table_at, table_count, names_up, names_inside, names_are}
use Rattle.elf_check.proofs.Views.{view_table}
use Rattle.symbols_fill.specs.Fill.{row_c}
use Rattle.symbols_fill.proofs.Filled.{put_none, put_next, put_all}
use native.Mathlib.Omega.{arith}
use Prim.Native.Nat.{◌+◌}
use mathlib.Core.Path.{◌≡◌, ◌∙◌}
use Rattle.symbols_fill.proofs.fill_c.Goals as goal

pub strings_of-strings-requires : goal.strings_of-strings-requires
strings_of-strings-requires c =
    let a = c.args in
    let t = view_table a.inputs.order a.compiled.now a.inputs.compiled c.requires.0.is c.requires.0.tabled in
    (names_up _ _ _ t, names_inside _ _ _ t)

pub loop-k-init : goal.loop-k-init
loop-k-init c =
    let a = c.args in
    (omega arith, put_none (row_c a.inputs.order a.compiled.now) 0 a.rows.now)

pub row_c-row-requires : goal.row_c-row-requires
row_c-row-requires c =
    let a = c.args in
    let t = view_table a.inputs.order a.compiled.now a.inputs.compiled c.requires.0.is c.requires.0.tabled in
    (record { tabled = c.requires.0.tabled; from = table_at _ _ _ t; names = names_are _ _ _ t _ c.strings_of-strings.ensures }, omega (arith, c.loop-k-test.true, table_count _ _ _ t))

pub write_id-requires : goal.write_id-requires
write_id-requires c =
    let a = c.args in
    let l = c.loop-k in
    let t = view_table a.inputs.order a.compiled.now a.inputs.compiled c.requires.0.is c.requires.0.tabled in
    (omega (arith, c.loop-k-test.true, c.requires.1, l.invariant.1.long, table_count _ _ _ t), c.row_c-row.ensures.1)

pub loop-k-preserved : goal.loop-k-preserved
loop-k-preserved c =
    let a = c.args in
    let l = c.loop-k in
    let g = c.loop-k-test.true in
    let t = view_table a.inputs.order a.compiled.now a.inputs.compiled c.requires.0.is c.requires.0.tabled in
    let r = c.row_c-row.ensures in
    let z : l.k ≡ 0 + l.k = omega arith in
    (omega (arith, g), put_next (row_c a.inputs.order a.compiled.now) 0 a.rows.now l.rows _ l.k _ l.invariant.1 (omega (arith, g, c.requires.1, l.invariant.1.long, table_count _ _ _ t)) r.0 r.1.0 (c.write_id.ensures ∙ rw (← z)))

pub shape_of-rows : goal.shape_of-rows
shape_of-rows c =
    c.loop-k.invariant.1.long

pub returns : goal.returns
returns c =
    let l = c.loop-k in
    let a = c.args in
    let t = view_table a.inputs.order a.compiled.now a.inputs.compiled c.requires.0.is c.requires.0.tabled in
    put_all (row_c a.inputs.order a.compiled.now) 0 a.rows.now l.rows l.k _ l.invariant.1 (omega (arith, l.invariant.0, c.loop-k-test.false, table_count _ _ _ t))
