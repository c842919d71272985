-- Each arm of the match is a row of the definition; what is left is in none. Assumes nothing.
use Rattle.statics_debug.specs.Entries.{storage_code}
use Rattle.statics_debug.proofs.Entries.{code_other}
use native.Mathlib.Omega.{arith}
use mathlib.Core.Path.{◌≡◌, refl}
use Rattle.statics_debug.proofs.storage_code.Goals as goal

pub returns-in-1 : goal.returns-in-1
unfolding storage_code
returns-in-1 c =
    let e : c.args.class ≡ 1 = omega arith in
    rw e (refl, omega arith)

pub returns-in-2 : goal.returns-in-2
unfolding storage_code
returns-in-2 c =
    let e : c.args.class ≡ 2 = omega arith in
    rw e (refl, omega arith)

pub returns-in-3 : goal.returns-in-3
unfolding storage_code
returns-in-3 c =
    let e : c.args.class ≡ 3 = omega arith in
    rw e (refl, omega arith)

pub returns-in-15 : goal.returns-in-15
unfolding storage_code
returns-in-15 c =
    let e : c.args.class ≡ 15 = omega arith in
    rw e (refl, omega arith)

pub returns-in_default : goal.returns-in_default
returns-in_default c =
    (code_other c.args.class (λ e. omega arith) (λ e. omega arith) (λ e. omega arith) (λ e. omega arith), omega arith)
