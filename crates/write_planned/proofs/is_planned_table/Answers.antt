-- A section behind those that stay is a new table. Assumes nothing.
use native.Mathlib.Omega.{arith}
use Rattle.write_planned.proofs.Planned.{table_stays, table_new}
use Rattle.write_planned.proofs.is_planned_table.Goals as goal

pub is_table-requires : goal.is_table-requires
is_table-requires c =
    let v-pre = c.requires in
    let v-if1 = c.if-i-stay in
    (v-pre.0, omega (arith, v-pre.1, v-if1.true))

pub returns-then-i-stay : goal.returns-then-i-stay
returns-then-i-stay c =
    let v-args = c.args in
    let v-if1 = c.if-i-stay in
    let v-is-table = c.is_table in
    table_stays v-args.order v-args.compiled.now v-args.stay v-args.i _ v-if1.true v-is-table.ensures

pub returns : goal.returns
returns c =
    let v-args = c.args in
    let v-if1 = c.if-i-stay in
    table_new v-args.order v-args.compiled.now v-args.stay v-args.i v-if1.false
