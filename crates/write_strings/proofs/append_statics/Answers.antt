-- What is written so far are the strings of the statics before static k, and each moves the end by less than 2 ^ 21. Assumes nothing.
use mathlib.Core.Path.{◌≡◌, ap}
use native.Mathlib.Omega.{arith}
use Rattle.base_lists.proofs.Written.{written_as}
use Rattle.statics_table.specs.Table.{static_in}
use Rattle.write_strings.specs.Strings.{static_string, strings_below}
use Rattle.write_strings.proofs.Strings.{strings_start, strings_turn}
use Rattle.write_strings.proofs.append_statics.Goals as goal

pub loop-k-init : goal.loop-k-init
loop-k-init c =
    let v-args = c.args in
    (omega arith, omega arith, strings_start v-args.mode v-args.path.now v-args.compiled.now (static_in v-args.statics.now) v-args.out.now v-args.at)

pub read-requires : goal.read-requires
read-requires c =
    let v-pre = c.requires in
    let v-loop-test = c.loop-k-test in
    (omega (arith, v-pre.4, v-loop-test.true), omega (arith, v-pre.3, v-loop-test.true))

pub append_string-next-requires : goal.append_string-next-requires
append_string-next-requires c =
    let v-pre = c.requires in
    let v-loop = c.loop-k in
    let v-loop-test = c.loop-k-test in
    (omega (arith, v-pre.0, v-pre.3, v-loop.invariant.1, v-loop-test.true), v-pre.1, v-pre.2)

pub loop-k-preserved : goal.loop-k-preserved
loop-k-preserved c =
    let v-args = c.args in
    let v-read = c.read in
    let v-append-string = c.append_string-next in
    let v-loop-test = c.loop-k-test in
    let v-loop = c.loop-k in
    let e = ap (static_string v-args.mode v-args.path.now v-args.compiled.now) v-read.ensures in
    let w = written_as _ _ _ _ _ _ e v-append-string.ensures.0 in
    (omega (arith, v-loop-test.true), omega (arith, v-loop.invariant.1, v-append-string.ensures.1), strings_turn v-args.mode v-args.path.now v-args.compiled.now (static_in v-args.statics.now) v-args.out.now v-args.at v-loop.k v-loop.next v-loop.out v-append-string.result v-append-string.new.out v-loop.invariant.2 w)

pub shape_of-out : goal.shape_of-out
shape_of-out c =
    let v-loop = c.loop-k in
    v-loop.invariant.2.long

pub returns : goal.returns
returns c =
    let v-loop = c.loop-k in
    let v-args = c.args in
    let v-loop-test = c.loop-k-test in
    let v-pre = c.requires in
    let e : v-loop.k ≡ v-args.n = omega (arith, v-loop.invariant.0, v-loop-test.false) in
    (written_as _ _ _ _ _ _ (ap (strings_below v-args.mode v-args.path.now v-args.compiled.now (static_in v-args.statics.now)) e) v-loop.invariant.2, omega (arith, e, v-pre.3, v-loop.invariant.1))
