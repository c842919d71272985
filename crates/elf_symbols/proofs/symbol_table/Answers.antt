-- The table's header names its string table, which is one of the sections by `Tabled`; the two headers give the four numbers. Assumes nothing.
use Rattle.elf_symbols.proofs.Symbols.{link_read, table_read}
use native.Mathlib.Omega.{arith}
use Rattle.elf_symbols.proofs.symbol_table.Goals as goal

pub section_at-s-requires : goal.section_at-s-requires
section_at-s-requires c =
    let a = c.args in
    let e = link_read a.order a.file.now _ _ c.symtab_index-i.ensures c.section_at-h.ensures in
    (c.requires.headed, omega (arith, e, c.requires.strings))

pub returns : goal.returns
returns c =
    let a = c.args in
    table_read a.order a.file.now _ _ c.symtab_index-i.ensures c.section_at-h.ensures _ c.section_at-s.ensures
