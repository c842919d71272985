-- Each arm of the match is a row of the list; what is left is in none. Assumes nothing.
use Rattle.statics_debug.specs.Entries.{opens_scope, among}
use Rattle.statics_debug.proofs.Entries.{opens_other}
use native.Mathlib.Omega.{arith}
use mathlib.Core.Path.{◌≡◌}
use Rattle.statics_debug.proofs.opens_scope.Goals as goal

pub returns-in-6 : goal.returns-in-6
unfolding opens_scope among
returns-in-6 c =
    let e : c.args.kind ≡ 6 = omega arith in
    rw e

pub returns-in-7 : goal.returns-in-7
unfolding opens_scope among
returns-in-7 c =
    let e : c.args.kind ≡ 7 = omega arith in
    rw e

pub returns-in-11 : goal.returns-in-11
unfolding opens_scope among
returns-in-11 c =
    let e : c.args.kind ≡ 11 = omega arith in
    rw e

pub returns-in-14 : goal.returns-in-14
unfolding opens_scope among
returns-in-14 c =
    let e : c.args.kind ≡ 14 = omega arith in
    rw e

pub returns-in-26 : goal.returns-in-26
unfolding opens_scope among
returns-in-26 c =
    let e : c.args.kind ≡ 26 = omega arith in
    rw e

pub returns-in-27 : goal.returns-in-27
unfolding opens_scope among
returns-in-27 c =
    let e : c.args.kind ≡ 27 = omega arith in
    rw e

pub returns-in-28 : goal.returns-in-28
unfolding opens_scope among
returns-in-28 c =
    let e : c.args.kind ≡ 28 = omega arith in
    rw e

pub returns-in_default : goal.returns-in_default
returns-in_default c =
    let r = c.in_default.in_default-own.rest in
    opens_other c.args.kind r.0.0.0.0.0.0.1 r.0.0.0.0.0.1 r.0.0.0.0.1 r.0.0.0.1 r.0.0.1 r.0.1 r.1
