-- By cases of the code and of the addends. Assumes nothing.
use Rattle.carry_homes.proofs.Names.{key_other, key_with, key_without}
use Rattle.carry_homes.proofs.same_name.Goals as goal

pub returns-then-a : goal.returns-then-a
returns-then-a c =
    let args = c.args in
    let if1 = c.if-a-b in
    let if2 = c.if-a in
    key_with args.a args.b if1.true if2.true

pub returns-then-a-b : goal.returns-then-a-b
returns-then-a-b c =
    let args = c.args in
    let if1 = c.if-a-b in
    let if2 = c.if-a in
    key_without args.a args.b if1.true if2.false

pub returns : goal.returns
returns c =
    let args = c.args in
    let if1 = c.if-a-b in
    key_other args.a args.b if1.false
