-- Each way through the tests. Assumes nothing.
use native.Mathlib.Omega.{arith}
use Rattle.carry_homes.proofs.Steps.{opened_few, home_joined, home_held, home_next}
use Rattle.carry_homes.proofs.home_of.Goals as goal

pub home_name-name-requires : goal.home_name-name-requires
home_name-name-requires c =
    let pre = c.requires in
    (pre.1, pre.4.listed.tables, pre.3)

pub returns-then-joined-stay : goal.returns-then-joined-stay
returns-then-joined-stay c =
    let args = c.args in
    let pre = c.requires in
    let home_name_lem = c.home_name-name in
    let joined-section = c.joined_section-joined in
    let if1 = c.if-joined-stay in
    home_joined args.order args.compiled.now args.assembled.now args.stay args.j args.opened args.rows.now pre.4 pre.3 home_name_lem.result
    home_name_lem.ensures.0 _ joined-section.ensures if1.true

pub first_home-first-requires : goal.first_home-first-requires
first_home-first-requires c =
    let pre = c.requires in
    (pre.1, pre.4.listed.tables, pre.3)

pub home_at-requires : goal.home_at-requires
home_at-requires c =
    let if2 = c.if-first-j in
    let pre = c.requires in
    omega (arith, if2.true, pre.3, pre.4.listed.tables.few)

pub returns-then-first-j : goal.returns-then-first-j
returns-then-first-j c =
    let args = c.args in
    let pre = c.requires in
    let home_name_lem = c.home_name-name in
    let joined-section = c.joined_section-joined in
    let if1 = c.if-joined-stay in
    let first_home = c.first_home-first in
    let if2 = c.if-first-j in
    let home_at = c.home_at in
    home_held args.order args.compiled.now args.assembled.now args.stay args.j args.opened args.rows.now pre.4 pre.3 home_name_lem.result
    home_name_lem.ensures.0 _ joined-section.ensures if1.false _ first_home.ensures if2.true _ home_at.ensures.0

pub overflow_add-result : goal.overflow_add-result
overflow_add-result c =
    let args = c.args in
    let pre = c.requires in
    let few = opened_few args.order args.compiled.now args.assembled.now args.stay args.j args.opened args.rows.now pre.4 pre.3 in
    omega (arith, pre.2, pre.0.headed.few, pre.1.named.headed.few, few)

pub returns : goal.returns
returns c =
    let args = c.args in
    let pre = c.requires in
    let home_name_lem = c.home_name-name in
    let joined-section = c.joined_section-joined in
    let if1 = c.if-joined-stay in
    let first_home = c.first_home-first in
    let if2 = c.if-first-j in
    home_next args.order args.compiled.now args.assembled.now args.stay args.j args.opened args.rows.now pre.4 pre.3 home_name_lem.result
    home_name_lem.ensures.0 _ joined-section.ensures if1.false _ first_home.ensures if2.false
