-- By whether it is a table, and carried. Assumes nothing.
use Rattle.carry_homes.proofs.Tables.{rank_none, rank_plain, rank_told}
use Rattle.carry_homes.proofs.is_in_rank.Goals as goal

pub returns-then-is_carried : goal.returns-then-is_carried
returns-then-is_carried c =
    let args = c.args in
    let is_Carried = c.is_carried in
    let if2 = c.if-is_carried in
    let carried-code = c.carried_code in
    let carried-rank = c.carried_rank in
    rank_told args.order args.assembled.now args.rank args.t _ is_Carried.ensures if2.true _ carried-code.ensures.0 _ carried-rank.ensures

pub returns-then-is_table : goal.returns-then-is_table
returns-then-is_table c =
    let args = c.args in
    let is_Carried = c.is_carried in
    rank_none args.order args.assembled.now args.rank args.t _ is_Carried.ensures c.if-is_carried.false

pub returns : goal.returns
returns c =
    let args = c.args in
    rank_plain args.order args.assembled.now args.rank args.t _ c.is_table.ensures c.if-is_table.false
