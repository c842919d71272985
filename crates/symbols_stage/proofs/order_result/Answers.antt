-- The order is written over the index. Assumes nothing.
use Rattle.symbols_stage.proofs.Stage.{order_room, order_of_lem}
use Rattle.symbols_stage.proofs.order_result.Goals as goal

pub order_positions-requires : goal.order_positions-requires
order_positions-requires c =
    let pre = c.requires in
    let args = c.args in
    let bound = c.bound-from in
    let bound2 = c.bound-to in
    (pre.0, pre.1, order_room args.rows.now args.list.now args.holders.now args.m _ _ args.index.now pre.2 bound.ensures bound2.ensures pre.0)

pub returns : goal.returns
returns c =
    let args = c.args in
    let pre = c.requires in
    let bound = c.bound-from in
    let bound2 = c.bound-to in
    let order-positions = c.order_positions in
    order_of_lem args.rows.now args.list.now args.holders.now args.m _ _ args.index.now pre.2 bound.ensures bound2.ensures _ order-positions.auto.order order-positions.ensures
