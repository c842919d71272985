-- A table that is not sound is the fault at 0; in a sound one the first bad symbol is. A sound table lies inside the file. Assumes nothing.
use Rattle.elf_symbols.specs.Symbols.{Table}
use Rattle.elf_symbols.proofs.Symbols.{table_count}
use Rattle.elf_symbol_faults.proofs.Faults.{tabled_of, fault_table, fault_first}
use mathlib.Core.Path.{sym, ◌∙◌}
use Rattle.elf_symbol_faults.proofs.symbol_fault.Goals as goal

pub symbol_table-table-requires : goal.symbol_table-table-requires
symbol_table-table-requires c =
    tabled_of c.args.order c.args.file.now c.requires (sym c.is_symbol_table_sound.ensures ∙ c.if-is_symbol_table_sound.true)

pub first_bad_symbol-bad-requires : goal.first_bad_symbol-bad-requires
first_bad_symbol-bad-requires c =
    let tabled = tabled_of c.args.order c.args.file.now c.requires (sym c.is_symbol_table_sound.ensures ∙ c.if-is_symbol_table_sound.true) in
    record { tabled = tabled; is = c.symbol_table-table.ensures }

pub returns-then-is_symbol_table_sound : goal.returns-then-is_symbol_table_sound
returns-then-is_symbol_table_sound c =
    let a = c.args in
    let sound = sym c.is_symbol_table_sound.ensures ∙ c.if-is_symbol_table_sound.true in
    let made = c.symbol_table-table in
    let table : Table a.order a.file.now made.result = record { tabled = tabled_of a.order a.file.now c.requires sound; is = made.ensures } in
    c.found_below.ensures ∙ fault_first a.order a.file.now _ _ sound (table_count a.order a.file.now made.result table) c.first_bad_symbol-bad.ensures

pub returns : goal.returns
returns c =
    let a = c.args in
    fault_table a.order a.file.now (sym c.is_symbol_table_sound.ensures ∙ c.if-is_symbol_table_sound.false)
