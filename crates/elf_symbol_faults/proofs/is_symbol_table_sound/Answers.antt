-- The conjuncts of `symbol_table_sound`: the table is there, and its header has the tests joined from the last to the first. Assumes nothing.
use Rattle.elf_symbol_faults.proofs.Faults.{table_there, table_past}
use native.Mathlib.Omega.{arith}
use Rattle.elf_symbol_faults.proofs.is_symbol_table_sound.Goals as goal

pub returns-then-t-section_count : goal.returns-then-t-section_count
returns-then-t-section_count c =
    let t = c.symtab_index-t in
    let a = c.args in
    table_there a.order a.file.now _ _ _ _ _ _ t.ensures (omega arith) c.section_at-h.ensures c.both-counted.ensures c.is_strtab.ensures c.both-linked.ensures c.both.ensures

pub returns : goal.returns
returns c =
    let a = c.args in
    table_past a.order a.file.now _ c.symtab_index-t.ensures (omega arith)
