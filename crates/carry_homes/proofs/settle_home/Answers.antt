-- The home is written, and it is the next new section where the table opens one. Assumes nothing.
use native.Mathlib.Omega.{arith}
use Rattle.carry_homes.proofs.Steps.{home_room, opened_few, homes_opened, homes_joined}
use Rattle.carry_homes.proofs.settle_home.Goals as goal

pub home_of-home-requires : goal.home_of-home-requires
home_of-home-requires c =
    let pre = c.requires in
    pre

pub overflow_mul-j : goal.overflow_mul-j
overflow_mul-j c =
    let args = c.args in
    let pre = c.requires in
    let fits = c.ranges in
    let room = home_room args.order args.compiled.now args.assembled.now args.stay args.j args.opened args.rows.now pre.4 pre.3 in
    omega (arith, room, fits)

pub overflow_add-j : goal.overflow_add-j
overflow_add-j c =
    let args = c.args in
    let pre = c.requires in
    let fits = c.ranges in
    let room = home_room args.order args.compiled.now args.assembled.now args.stay args.j args.opened args.rows.now pre.4 pre.3 in
    omega (arith, room, fits)

pub overflow_cast-home : goal.overflow_cast-home
overflow_cast-home c =
    let args = c.args in
    let pre = c.requires in
    let Home-of = c.home_of-home in
    let few = opened_few args.order args.compiled.now args.assembled.now args.stay args.j args.opened args.rows.now pre.4 pre.3 in
    omega (arith, Home-of.ensures.1, pre.2, pre.0.headed.few, pre.1.named.headed.few, few)

pub write32-requires : goal.write32-requires
write32-requires c =
    let args = c.args in
    let pre = c.requires in
    let room = home_room args.order args.compiled.now args.assembled.now args.stay args.j args.opened args.rows.now pre.4 pre.3 in
    omega (arith, room)

pub overflow_add-stay : goal.overflow_add-stay
overflow_add-stay c =
    let args = c.args in
    let pre = c.requires in
    let few = opened_few args.order args.compiled.now args.assembled.now args.stay args.j args.opened args.rows.now pre.4 pre.3 in
    omega (arith, pre.2, pre.0.headed.few, pre.1.named.headed.few, few)

pub overflow_add-result : goal.overflow_add-result
overflow_add-result c =
    let args = c.args in
    let pre = c.requires in
    let few = opened_few args.order args.compiled.now args.assembled.now args.stay args.j args.opened args.rows.now pre.4 pre.3 in
    omega (arith, pre.1.named.headed.few, few)

pub returns-then-home-stay : goal.returns-then-home-stay
returns-then-home-stay c =
    let args = c.args in
    let pre = c.requires in
    let Home-of = c.home_of-home in
    let write32 = c.write32 in
    let if1 = c.if-home-stay in
    homes_opened args.order args.compiled.now args.assembled.now args.stay args.j args.opened args.rows.now pre.4 pre.3 _ Home-of.ensures.0 _
    write32.ensures if1.true

pub returns : goal.returns
returns c =
    let args = c.args in
    let pre = c.requires in
    let Home-of = c.home_of-home in
    let write32 = c.write32 in
    let if1 = c.if-home-stay in
    homes_joined args.order args.compiled.now args.assembled.now args.stay args.j args.opened args.rows.now pre.4 pre.3 _ Home-of.ensures.0 _
    write32.ensures if1.false
