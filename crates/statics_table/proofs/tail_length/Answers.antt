-- The tests tell the digits apart. Assumes nothing.
use Rattle.statics_table.proofs.Statics.{tail_none, tail_1, tail_2, tail_3, tail_4}
use native.Mathlib.Omega.{arith}
use mathlib.Core.Path.{◌≡◌, sym}
use Rattle.statics_table.proofs.tail_length.Goals as goal

pub returns-then-number-eq0 : goal.returns-then-number-eq0
returns-then-number-eq0 c =
    let e : c.args.number ≡ 0 = c.if-number-eq0.true in
    rw e (sym tail_none, omega arith)

pub returns-then-number-lt10 : goal.returns-then-number-lt10
returns-then-number-lt10 c = (sym (tail_1 c.args.number (omega arith) c.if-number-lt10.true), omega arith)

pub returns-then-number-lt100 : goal.returns-then-number-lt100
returns-then-number-lt100 c = (sym (tail_2 c.args.number (omega arith) c.if-number-lt100.true), omega arith)

pub returns-then-number-lt1000 : goal.returns-then-number-lt1000
returns-then-number-lt1000 c = (sym (tail_3 c.args.number (omega arith) c.if-number-lt1000.true), omega arith)

pub returns : goal.returns
returns c = (sym (tail_4 c.args.number (omega arith) (omega arith)), omega arith)
