-- `late_blocks::place_dummies` meets its contract: after k turns the places of k dummies stand in the table and the next search begins at `here`. A turn ends the loop
-- at the first dummy that is lost, and else writes one place more. Assumes nothing.
use Rattle.late_blocks.proofs.Items.{spot_at, spot_lost, placing_none, placing_lost, placing_fits, placing_next, placing_end}
use Rattle.late_moves.specs.Moves.{item_place, item_fault}
use native.Mathlib.Omega.{arith}
use Prim.Native.Nat.{◌+◌, ◌≤◌}
use lib.ListN.{length}
use Rattle.late_blocks.proofs.place_dummies.Goals as goal
use Rattle.late_blocks.proofs.place_dummies.Goals.{After-write24-arg-1}

-- the place found lies inside .rodata
inside : (c : After-write24-arg-1)
    → c.in-Some.p + 4 ≤ length c.args.rodata.now
inside c =
    let a = c.args in
    let q = c.requires in
    let l = c.loop-k in
    let p = c.in-Some.p in
    let r = c.dummy_spot in
    let t =
    spot_at (item_fault a.order a.file.now a.rodata.now a.i l.here l.k)
    (item_place a.order a.file.now a.rodata.now a.i l.here l.k) p r.result r.ensures c.in-Some.is in
    placing_fits a.order a.file.now a.rodata.now a.i a.last a.count a.late.now a.at l.k l.here l.late l.invariant (omega arith) p t.0 t.1 q.2

pub loop-k-init : goal.loop-k-init
loop-k-init c =
    let a = c.args in
    placing_none a.order a.file.now a.rodata.now a.i a.last a.count a.late.now a.at (omega arith)

pub overflow_cast-p : goal.overflow_cast-p
overflow_cast-p c = record { fits = omega (arith, inside (goal.at.overflow_cast-p c).After-write24-arg-1) }

pub write24-requires : goal.write24-requires
write24-requires c =
    let l = c.loop-k in
    (omega (arith, l.invariant.long), omega (arith, inside (goal.at.write24-requires c).After-write24-arg-1))

pub overflow_add-here : goal.overflow_add-here
overflow_add-here c = omega (arith, inside (goal.at.overflow_add-here c).After-write24-arg-1)

pub loop-k-preserved : goal.loop-k-preserved
loop-k-preserved c =
    let a = c.args in
    let q = c.requires in
    let l = c.loop-k in
    let p = c.in-Some.p in
    let r = c.dummy_spot in
    let t =
    spot_at (item_fault a.order a.file.now a.rodata.now a.i l.here l.k)
    (item_place a.order a.file.now a.rodata.now a.i l.here l.k) p r.result r.ensures c.in-Some.is in
    let n =
    placing_next a.order a.file.now a.rodata.now a.i a.last a.count a.late.now a.at l.k l.here l.late l.invariant (omega arith) p t.0 t.1 q.2
    q.5 in
    rw c.write24.ensures n

pub returns-in-None : goal.returns-in-None
returns-in-None c =
    let a = c.args in
    let l = c.loop-k in
    let r = c.dummy_spot in
    let t =
    spot_lost (item_fault a.order a.file.now a.rodata.now a.i l.here l.k)
    (item_place a.order a.file.now a.rodata.now a.i l.here l.k) r.result r.ensures c.in-None.is in
    placing_lost a.order a.file.now a.rodata.now a.i a.last a.count a.late.now a.at l.k l.here l.late l.invariant (omega arith) t

pub returns : goal.returns
returns c =
    let a = c.args in
    let l = c.loop-k in
    placing_end a.order a.file.now a.rodata.now a.i a.last a.count a.late.now a.at l.k l.here l.late l.invariant (omega arith)
