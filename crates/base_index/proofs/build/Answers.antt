-- After each turn the items from j on are chained; at the end these are all. Assumes nothing.
use Rattle.base_index.proofs.Chains.{Chained, room_same, chain_none, chain_next, chain_end}
use Rattle.std.proofs.Common.{◌≡◌, ◌+◌, ◌-◌, arith}
use Rattle.base_index.proofs.build.Goals as goal

pub loop-j-init : goal.loop-j-init
loop-j-init c = chain_none _ _ _ _ c.empty_heads.ensures

pub loop-j-preserved : goal.loop-j-preserved
loop-j-preserved c =
    let l = c.loop-j in
    let r = room_same c.args.cap c.args.table.now l.table (omega arith) c.requires.0 in
    let e : l.j ≡ l.j - 1 + 1 = omega arith in
    let m : Chained c.args.cap c.args.n (l.j - 1 + 1) c.empty_heads.new.table l.table = rw e at l.invariant in
    rw c.link.ensures (chain_next c.args.cap c.args.n (l.j - 1) c.empty_heads.new.table l.table r (omega arith) c.requires.1 m)

pub returns : goal.returns
returns c =
    let l = c.loop-j in
    let r = room_same c.args.cap c.args.table.now l.table (omega arith) c.requires.0 in
    let e : l.j ≡ 0 = omega arith in
    chain_end c.args.cap c.args.n c.args.table.now c.empty_heads.new.table l.table r c.requires.1 c.empty_heads.ensures (rw e at l.invariant)
