-- `blocks_lines::key_length` meets its contract: each arm of the match is a row of the table. Assumes nothing.
use Rattle.blocks_lines.proofs.Keys.{past_four, last_key}
use Rattle.blocks_lines.specs.Keys.{key_name, keys}
use Rattle.base_scope.specs.Text.{text}
use native.Mathlib.Omega.{arith}
use mathlib.Core.Path.{◌≡◌}
use Rattle.blocks_lines.proofs.key_length.Goals as goal

pub returns-in-0 : goal.returns-in-0
unfolding key_name keys text
returns-in-0 c =
    let e : c.args.k ≡ 0 = omega arith in
    rw e

pub returns-in-1 : goal.returns-in-1
unfolding key_name keys text
returns-in-1 c =
    let e : c.args.k ≡ 1 = omega arith in
    rw e

pub returns-in-2 : goal.returns-in-2
unfolding key_name keys text
returns-in-2 c =
    let e : c.args.k ≡ 2 = omega arith in
    rw e

pub returns-in-3 : goal.returns-in-3
unfolding key_name keys text
returns-in-3 c =
    let e : c.args.k ≡ 3 = omega arith in
    rw e

pub returns-in-4 : goal.returns-in-4
unfolding key_name keys text
returns-in-4 c =
    let e : c.args.k ≡ 4 = omega arith in
    rw e

pub returns-in-5 : goal.returns-in-5
unfolding key_name keys text
returns-in-5 c =
    let e : c.args.k ≡ 5 = omega arith in
    rw e

pub returns-in-6 : goal.returns-in-6
unfolding key_name keys text
returns-in-6 c =
    let e : c.args.k ≡ 6 = omega arith in
    rw e

pub returns-in-7 : goal.returns-in-7
unfolding key_name keys text
returns-in-7 c =
    let e : c.args.k ≡ 7 = omega arith in
    rw e

pub returns-in-8 : goal.returns-in-8
unfolding key_name keys text
returns-in-8 c =
    let e : c.args.k ≡ 8 = omega arith in
    rw e

pub returns-in-9 : goal.returns-in-9
unfolding key_name keys text
returns-in-9 c =
    let e : c.args.k ≡ 9 = omega arith in
    rw e

pub returns-in_default : goal.returns-in_default
unfolding key_name keys text
returns-in_default c =
    let r = c.in_default.in_default-own.rest in
    let k = c.args.k in
    let q = r.0.0.0.0.0 in
    let l = past_four k q.0.0.0.0.1 q.0.0.0.1 q.0.0.1 q.0.1 q.1 in
    let e : k ≡ 10 = last_key k c.requires l r.0.0.0.0.1 r.0.0.0.1 r.0.0.1 r.0.1 r.1 in
    rw e
