-- An unnamed symbol holds itself; else the walk through the bucket of the hash comes to the first position of the name. Assumes nothing.
use Prim.Native.Nat.{◌-◌}
use native.Mathlib.Omega.{arith}
use Rattle.base_scope.specs.Limits.{ID_LIMIT}
use Rattle.base_index.proofs.Index.{next_far}
use Rattle.symbols_holders.proofs.Holders.{position_here, position_held, own_unnamed, walk_first, walk_here, walk_next, walk_own}
use Rattle.symbols_holders.proofs.holder_at.Goals as goal

pub row_at-row-requires : goal.row_at-row-requires
row_at-row-requires c = position_here _ _ _ _ _ _ _ _ _ _ c.requires

pub returns-then-row : goal.returns-then-row
returns-then-row c = (own_unnamed _ _ _ _ _ _ _ _ _ _ c.requires _ c.row_at-row.ensures c.if-row.true, omega arith)

pub hash_at-hash-requires : goal.hash_at-hash-requires
hash_at-hash-requires c =
    let q = c.requires in
    (position_held _ _ _ _ _ _ _ _ _ _ q _ q.low).item

pub loop-k-init : goal.loop-k-init
loop-k-init c = walk_first _ _ _ _ _ _ _ _ _ _ c.requires _ _ c.hash_at-hash.ensures c.head_of-k.ensures.0

pub is_alike-requires : goal.is_alike-requires
is_alike-requires c =
    let q = c.requires in
    (q.ready.read, position_held _ _ _ _ _ _ _ _ _ _ q _ q.low, position_held _ _ _ _ _ _ _ _ _ _ q c.loop-k.k (omega (arith, q.low)))

pub returns-then-is_alike : goal.returns-then-is_alike
returns-then-is_alike c =
    let l = c.loop-k in
    let q = c.requires in
    let h = walk_here _ _ _ _ _ _ _ _ _ _ q _ c.row_at-row.ensures c.if-row.false l.k l.invariant in
    (h _ c.loop-k-test.true c.is_alike.ensures c.if-is_alike.true, omega arith)

pub next_of-k-requires : goal.next_of-k-requires
next_of-k-requires c =
    let q = c.requires in
    (q.index.indexed.room, omega (arith, q.low, q.index.indexed.many))

pub loop-k-smaller : goal.loop-k-smaller
loop-k-smaller c =
    let l = c.loop-k in
    omega (arith, c.next_of-k.ensures.0, next_far ID_LIMIT c.args.index.now _ l.k c.requires.index.indexed (omega (arith, c.requires.low)))

pub loop-k-preserved : goal.loop-k-preserved
loop-k-preserved c =
    let l = c.loop-k in
    let q = c.requires in
    let n = walk_next _ _ _ _ _ _ _ _ _ _ q _ c.row_at-row.ensures c.if-row.false l.k l.invariant in
    n _ c.loop-k-test.true c.is_alike.ensures _ c.if-is_alike.false c.next_of-k.ensures.0

pub returns : goal.returns
returns c =
    let l = c.loop-k in
    (walk_own _ _ _ _ _ _ _ _ _ _ c.requires l.k l.invariant c.loop-k-test.false, omega arith)
