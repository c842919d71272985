-- What is written so far are the names of the new sections before section i, and each moves the end by at most 13. Assumes nothing.
use mathlib.Core.Path.{◌≡◌, ap}
use native.Mathlib.Omega.{arith}
use Rattle.base_lists.proofs.Written.{written_as}
use Rattle.write_content.specs.Content.{new_names_in}
use Rattle.write_content.proofs.Content.{names_start_lem, names_turn}
use Rattle.write_content.proofs.append_new_names.Goals as goal

pub loop-i-init : goal.loop-i-init
loop-i-init c =
    let v-args = c.args in
    (omega arith, omega arith, names_start_lem v-args.order v-args.assembled.now v-args.homes.now v-args.n v-args.stay v-args.out.now v-args.at)

pub append_new_name-next-requires : goal.append_new_name-next-requires
append_new_name-next-requires c =
    let v-pre = c.requires in
    let v-loop = c.loop-i in
    let v-loop-test = c.loop-i-test in
    (v-pre.0, v-pre.1, v-loop-test.true, omega (arith, v-pre.1.few, v-pre.2, v-loop.invariant.1, v-loop-test.true))

pub loop-i-preserved : goal.loop-i-preserved
loop-i-preserved c =
    let v-args = c.args in
    let v-loop = c.loop-i in
    let v-loop-test = c.loop-i-test in
    let v-append-new-name = c.append_new_name-next in
    let w = names_turn v-args.order v-args.assembled.now v-args.homes.now v-args.n v-args.stay v-args.out.now v-args.at v-loop.i v-loop.next v-loop.out v-append-new-name.result v-append-new-name.new.out v-loop.invariant.2 v-append-new-name.ensures.0 in
    (omega (arith, v-loop-test.true), omega (arith, v-loop.invariant.1, v-append-new-name.ensures.1), w)

pub shape_of-out : goal.shape_of-out
shape_of-out c =
    let v-loop = c.loop-i in
    v-loop.invariant.2.long

pub returns : goal.returns
returns c =
    let v-args = c.args in
    let v-loop = c.loop-i in
    let v-loop-test = c.loop-i-test in
    let e : v-loop.i ≡ v-args.count = omega (arith, v-loop.invariant.0, v-loop-test.false) in
    (written_as _ _ _ _ _ _ (ap (new_names_in v-args.order v-args.assembled.now v-args.homes.now v-args.n v-args.stay) e) v-loop.invariant.2, omega (arith, e, v-loop.invariant.1))
