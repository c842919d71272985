-- What is written so far is what the rows before row j bring, and each moves the end by at most the length of A. Assumes nothing.
use mathlib.Core.Path.{◌≡◌, ap}
use native.Mathlib.Omega.{arith}
use Rattle.base_lists.proofs.Written.{written_as}
use Rattle.carry_entries.specs.Entries.{carried_bytes}
use Rattle.carry_entries.specs.Code.{carrying_in}
use Rattle.write_tables.specs.Tables.{joined_in}
use Rattle.write_tables.proofs.Tables.{joined_start, joined_turn}
use Rattle.write_tables.proofs.append_joined.Goals as goal

pub loop-j-init : goal.loop-j-init
loop-j-init c =
    let v-args = c.args in
    (omega arith, omega arith, joined_start v-args.homes.now (carried_bytes v-args.side.order v-args.file.now (carrying_in v-args.file.now v-args.side v-args.rows.now v-args.late.now v-args.numbers.now)) v-args.i v-args.out.now v-args.at)

pub append_row-next-requires : goal.append_row-next-requires
append_row-next-requires c =
    let v-pre = c.requires in
    let v-loop-test = c.loop-j-test in
    let v-loop = c.loop-j in
    (v-pre.0, v-pre.1, v-loop-test.true, v-pre.2, omega (arith, v-pre.1.few, v-pre.3, v-loop.invariant.1, v-loop-test.true))

pub loop-j-preserved : goal.loop-j-preserved
loop-j-preserved c =
    let v-loop-test = c.loop-j-test in
    let v-loop = c.loop-j in
    let v-append-row = c.append_row-next in
    let v-args = c.args in
    (omega (arith, v-loop-test.true), omega (arith, v-loop.invariant.1, v-append-row.ensures.1), joined_turn v-args.homes.now (carried_bytes v-args.side.order v-args.file.now (carrying_in v-args.file.now v-args.side v-args.rows.now v-args.late.now v-args.numbers.now)) v-args.i v-args.out.now v-args.at v-loop.j v-loop.next v-loop.out v-append-row.result v-append-row.new.out v-loop.invariant.2 v-append-row.ensures.0)

pub shape_of-out : goal.shape_of-out
shape_of-out c =
    let v-loop = c.loop-j in
    v-loop.invariant.2.long

pub returns : goal.returns
returns c =
    let v-loop = c.loop-j in
    let v-args = c.args in
    let v-loop-test = c.loop-j-test in
    let e : v-loop.j ≡ v-args.n = omega (arith, v-loop.invariant.0, v-loop-test.false) in
    (written_as _ _ _ _ _ _ (ap (joined_in v-args.homes.now (carried_bytes v-args.side.order v-args.file.now (carrying_in v-args.file.now v-args.side v-args.rows.now v-args.late.now v-args.numbers.now)) v-args.i) e) v-loop.invariant.2, omega (arith, e, v-loop.invariant.1))
