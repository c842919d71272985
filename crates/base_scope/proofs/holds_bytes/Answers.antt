-- Each arm of the match is a row of the table; what is left is 0, or lies past its last row. Assumes nothing.
use Rattle.base_scope.specs.Codes.{holds_bytes, section_codes}
use Rattle.base_scope.proofs.Codes.{past_holds}
use native.Mathlib.Omega.{arith}
use mathlib.Core.Path.{◌≡◌, sym}
use Rattle.base_scope.proofs.holds_bytes.Goals as goal

pub returns-in-1 : goal.returns-in-1
unfolding holds_bytes section_codes
returns-in-1 c =
    let e : c.args.code ≡ 1 = omega arith in
    rw e

pub returns-in-2 : goal.returns-in-2
unfolding holds_bytes section_codes
returns-in-2 c =
    let e : c.args.code ≡ 2 = omega arith in
    rw e

pub returns-in-3 : goal.returns-in-3
unfolding holds_bytes section_codes
returns-in-3 c =
    let e : c.args.code ≡ 3 = omega arith in
    rw e

pub returns-in-4 : goal.returns-in-4
unfolding holds_bytes section_codes
returns-in-4 c =
    let e : c.args.code ≡ 4 = omega arith in
    rw e

pub returns-in-5 : goal.returns-in-5
unfolding holds_bytes section_codes
returns-in-5 c =
    let e : c.args.code ≡ 5 = omega arith in
    rw e

pub returns-in-6 : goal.returns-in-6
unfolding holds_bytes section_codes
returns-in-6 c =
    let e : c.args.code ≡ 6 = omega arith in
    rw e

pub returns-in_default : goal.returns-in_default
returns-in_default c = sym (past_holds c.args.code (omega arith))
