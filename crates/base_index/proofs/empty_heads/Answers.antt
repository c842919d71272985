-- After b turns the first b buckets are empty, and no hash has changed. Assumes nothing.
use Rattle.base_index.specs.Index.{buckets_of}
use Rattle.base_index.proofs.Chains.{room_same, empty_none, empty_next}
use Rattle.std.proofs.Common.{◌≡◌, arith}
use Rattle.base_index.proofs.empty_heads.Goals as goal

pub loop-b-init : goal.loop-b-init
loop-b-init c = empty_none _ _ _

pub loop-b-preserved : goal.loop-b-preserved
loop-b-preserved c =
    let l = c.loop-b in
    let w = c.write16 in
    let r = room_same c.args.cap c.args.table.now l.table (omega arith) c.requires.0 in
    empty_next c.args.cap c.args.n l.b _ c.args.table.now l.table _ r (omega (arith, c.buckets_of-most.ensures)) c.head_place.ensures w.ensures l.invariant

pub returns : goal.returns
returns c =
    let l = c.loop-b in
    let n = c.args.n in
    let e : l.b ≡ buckets_of n = omega (arith, c.buckets_of-most.ensures.0) in
    rw e at l.invariant
