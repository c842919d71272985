-- A table of the rank goes to its place, and there is room for it; any other leaves the rows as they are. Assumes nothing.
use native.Mathlib.Omega.{arith}
use Rattle.carry_homes.proofs.Tables.{ranked_room, ranked_put, ranked_skip}
use Rattle.carry_homes.proofs.append_table.Goals as goal

pub overflow_mul-m : goal.overflow_mul-m
overflow_mul-m c =
    let args = c.args in
    let pre = c.requires in
    let is-in-rank = c.is_in_rank in
    let if1 = c.if-is_in_rank in
    let fits = c.ranges in
    let room = ranked_room args.order args.assembled.now args.rank args.t args.m args.rows.now pre.4 pre.2 _ is-in-rank.ensures if1.true
    pre.0.named.headed.few pre.3 in
    omega (arith, room, fits)

pub overflow_cast-t : goal.overflow_cast-t
overflow_cast-t c =
    let pre = c.requires in
    omega (arith, pre.2, pre.0.named.headed.few)

pub write32-requires : goal.write32-requires
write32-requires c =
    let args = c.args in
    let pre = c.requires in
    let is-in-rank = c.is_in_rank in
    let if1 = c.if-is_in_rank in
    let room = ranked_room args.order args.assembled.now args.rank args.t args.m args.rows.now pre.4 pre.2 _ is-in-rank.ensures if1.true
    pre.0.named.headed.few pre.3 in
    omega (arith, room)

pub overflow_add-result : goal.overflow_add-result
overflow_add-result c =
    let args = c.args in
    let pre = c.requires in
    let is-in-rank = c.is_in_rank in
    let if1 = c.if-is_in_rank in
    let fits = c.ranges in
    let room = ranked_room args.order args.assembled.now args.rank args.t args.m args.rows.now pre.4 pre.2 _ is-in-rank.ensures if1.true
    pre.0.named.headed.few pre.3 in
    omega (arith, room, fits)

pub returns-then-is_in_rank : goal.returns-then-is_in_rank
returns-then-is_in_rank c =
    let args = c.args in
    let pre = c.requires in
    let is-in-rank = c.is_in_rank in
    let if1 = c.if-is_in_rank in
    let write32 = c.write32 in
    ranked_put args.order args.assembled.now args.rank args.t args.m args.rows.now pre.4 pre.2 _ is-in-rank.ensures if1.true
    pre.0.named.headed.few pre.3 _ write32.ensures

pub returns : goal.returns
returns c =
    let args = c.args in
    let pre = c.requires in
    let is-in-rank = c.is_in_rank in
    let if1 = c.if-is_in_rank in
    ranked_skip args.order args.assembled.now args.rank args.t args.m args.rows.now pre.4 _ is-in-rank.ensures if1.false
