-- After i turns the ids of the group below i stand behind those before them. Assumes nothing.
use Rattle.symbols_rows.proofs.Listing.{appending_none, appending_room, appending_next, appending_end}
use native.Mathlib.Omega.{arith}
use Rattle.symbols_rows.proofs.append_group.Goals as goal

pub loop-i-init : goal.loop-i-init
loop-i-init c =
    let a = c.args in
    appending_none a.rows.now a.n a.group a.m a.list.now

pub append_id-r-requires : goal.append_id-r-requires
append_id-r-requires c =
    let a = c.args in
    let l = c.loop-i in (
      omega (arith, c.requires.1, c.loop-i-test.true),
      omega (arith, c.requires.0, c.loop-i-test.true),
      appending_room a.rows.now a.n a.group a.m a.list.now l.i l.r l.list l.invariant c.requires.2 c.loop-i-test.true,
    )

pub loop-i-preserved : goal.loop-i-preserved
loop-i-preserved c =
    let a = c.args in
    let l = c.loop-i in
    let t = c.append_id-r in
    appending_next a.rows.now a.n a.group a.m a.list.now l.i l.r l.list l.invariant _ _ c.requires.2 c.loop-i-test.true t.auto.list t.ensures

pub shape_of-list : goal.shape_of-list
shape_of-list c = c.loop-i.invariant.long

pub returns : goal.returns
returns c =
    let a = c.args in
    let l = c.loop-i in
    appending_end a.rows.now a.n a.group a.m a.list.now l.i l.r l.list l.invariant c.loop-i-test.false
