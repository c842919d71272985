-- Each arm of the match is a row of the list; what is left is in none. Assumes nothing.
use Rattle.statics_debug.specs.Entries.{lists_static, among}
use Rattle.statics_debug.proofs.Entries.{lists_other}
use native.Mathlib.Omega.{arith}
use mathlib.Core.Path.{◌≡◌}
use Rattle.statics_debug.proofs.lists_static.Goals as goal

pub returns-in-2 : goal.returns-in-2
unfolding lists_static among
returns-in-2 c =
    let e : c.args.kind ≡ 2 = omega arith in
    rw e

pub returns-in-14 : goal.returns-in-14
unfolding lists_static among
returns-in-14 c =
    let e : c.args.kind ≡ 14 = omega arith in
    rw e

pub returns-in_default : goal.returns-in_default
returns-in_default c = lists_other c.args.kind (λ e. omega arith) (λ e. omega arith)
