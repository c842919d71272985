-- `late_dummies::place_dummy` meets its contract: the finder's answer in the part is `found` in the whole, and at each `return` the tests that led there say which
-- case of `spot` holds. Assumes nothing.
use Rattle.late_dummies.proofs.Dummies.{found_tail, spot_lost, spot_many, spot_one}
use native.Mathlib.Omega.{arith}
use Rattle.late_dummies.proofs.place_dummy.Goals as goal

pub returns-then-rodata-at-lt4 : goal.returns-then-rodata-at-lt4
returns-then-rodata-at-lt4 c =
    let a = c.args in
    let f = c.find_dummy in
    let e = found_tail a.order a.rodata.now a.last a.word f.result c.requires f.ensures.0 in
    spot_lost a.order a.rodata.now a.many a.last a.word (omega arith)

pub returns-then-many : goal.returns-then-many
returns-then-many c =
    let a = c.args in
    let f = c.find_dummy in
    let e = found_tail a.order a.rodata.now a.last a.word f.result c.requires f.ensures.0 in
    rw (c.shift_dummy.ensures, e) (spot_many a.order a.rodata.now a.many a.last a.word (omega arith) c.if-many.true)

pub returns : goal.returns
returns c =
    let a = c.args in
    let f = c.find_dummy in
    let e = found_tail a.order a.rodata.now a.last a.word f.result c.requires f.ensures.0 in
    rw e (spot_one a.order a.rodata.now a.many a.last a.word (omega arith) c.if-many.false)
