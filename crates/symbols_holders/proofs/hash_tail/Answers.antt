-- The bytes from i on are hashed, and those before them go before their hash. Assumes nothing.
use mathlib.Core.Path.{sym}
use native.Mathlib.Omega.{arith}
use Rattle.statics_table.specs.Statics.{count_tail}
use Rattle.symbols_holders.proofs.Hashes.{tail_none, tail_next, tail_all}
use Rattle.symbols_holders.proofs.hash_tail.Goals as goal

pub loop-i-init : goal.loop-i-init
loop-i-init c =
    let a = c.args in
    let e = c.tail_room-i.ensures in
    (omega (arith, e), tail_none (count_tail a.number) a.room c.tail_room-i.result e)

pub tail_byte-requires : goal.tail_byte-requires
tail_byte-requires c = (c.requires, omega (arith, c.loop-i.invariant.0))

pub loop-i-preserved : goal.loop-i-preserved
loop-i-preserved c =
    let a = c.args in
    let l = c.loop-i in
    let v = l.invariant in (
      omega (arith, v.0),
      tail_next (count_tail a.number) a.room l.i l.g c.mix-g.result c.tail_byte.result (omega arith) c.mix-g.ensures c.tail_byte.ensures v.1,
    )

pub returns : goal.returns
returns c =
    let a = c.args in
    let l = c.loop-i in
    sym (tail_all (count_tail a.number) a.room l.i l.g (omega arith) l.invariant.1)
