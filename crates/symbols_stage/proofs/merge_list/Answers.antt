-- The rows and the list, then the holders, then the numbers. Assumes nothing.
use native.Mathlib.Omega.{arith}
use Rattle.symbols_stage.proofs.End.{list_hold, list_number, list_end}
use Rattle.symbols_table.proofs.of_symbols_fill.Filled.{ids_few}
use Rattle.symbols_stage.proofs.merge_list.Goals as goal

pub hold_symbols-requires : goal.hold_symbols-requires
hold_symbols-requires c =
    let args = c.args in
    let list-symbols = c.list_symbols-m in
    let pre = c.requires in
    let h = list_hold args.compiled.now args.assembled.now args.filling _ args.table.now _ args.steps.now _ list-symbols.ensures args.places.now args.index.now pre.1 in
    (h.0, h.1, pre.2)

pub part-list-requires : goal.part-list-requires
part-list-requires c =
    let list-symbols = c.list_symbols-m in
    let pre = c.requires in
    omega (arith, list-symbols.ensures.kept_steps.long, pre.1.steps_long_lem)

pub part-holders-requires : goal.part-holders-requires
part-holders-requires c =
    let hold-symbols = c.hold_symbols in
    let pre = c.requires in
    omega (arith, hold-symbols.ensures.kept.long, pre.1.places_long)

pub id_count-ids-requires : goal.id_count-ids-requires
id_count-ids-requires c =
    let args = c.args in
    let pre = c.requires in
    ids_few args.compiled.now args.assembled.now _ _ args.filling pre.0.places

pub number_list-requires : goal.number_list-requires
number_list-requires c =
    let args = c.args in
    let list-symbols = c.list_symbols-m in
    let hold-symbols = c.hold_symbols in
    let pre = c.requires in
    let part = c.part-rows in
    let part2 = c.part-list in
    let part3 = c.part-holders in
    rw c.id_count-ids.ensures (list_number args.compiled.now args.assembled.now args.filling _ args.table.now _ args.steps.now _ list-symbols.ensures args.places.now _ hold-symbols.ensures _ args.index.now hold-symbols.new.index pre.0 pre.1 hold-symbols.auto.index _ _ _ part.ensures part2.ensures part3.ensures)

pub returns : goal.returns
returns c =
    let args = c.args in
    let list-symbols = c.list_symbols-m in
    let hold-symbols = c.hold_symbols in
    let part = c.part-rows in
    let part2 = c.part-list in
    let part3 = c.part-holders in
    let number-list = c.number_list in
    list_end args.compiled.now args.assembled.now args.filling _ args.table.now _ args.steps.now _ list-symbols.ensures args.places.now _ hold-symbols.ensures _ _ _ _ _ part.ensures part2.ensures part3.ensures (rw c.id_count-ids.ensures at number-list.ensures)
