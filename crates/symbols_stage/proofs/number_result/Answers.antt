-- The numbers are written behind the order, which stays. Assumes nothing.
use Rattle.symbols_stage.proofs.Stage.{number_room, numbers_of}
use native.Mathlib.Omega.{arith}
use Rattle.symbols_stage.proofs.number_result.Goals as goal

pub overflow_mul-ids : goal.overflow_mul-ids
overflow_mul-ids c = omega (arith, c.requires.3.few)

pub overflow_add-ids : goal.overflow_add-ids
overflow_add-ids c = omega (arith, c.requires.3.few)

pub number_ids-requires : goal.number_ids-requires
number_ids-requires c =
    let pre = c.requires in
    let args = c.args in
    let bound = c.bound-from in
    let bound2 = c.bound-to in
    (pre.0, pre.1, pre.2, number_room args.rows.now args.list.now args.holders.now args.m _ _ args.index.now pre.4 args.ids pre.3 bound.ensures bound2.ensures)

pub returns : goal.returns
returns c =
    let args = c.args in
    let pre = c.requires in
    let bound = c.bound-from in
    let bound2 = c.bound-to in
    let number-ids = c.number_ids in
    numbers_of args.rows.now args.list.now args.holders.now args.m _ _ args.index.now pre.4 args.ids pre.3 bound.ensures bound2.ensures _ number-ids.auto.numbers number-ids.ensures
