-- A search for the first byte that may not stand in a path: none before x is one. Assumes nothing.
use Rattle.merge_verdict.proofs.Limits.{path_long, path_bad, path_good, path_all}
use native.Mathlib.Omega.{arith}
use mathlib.Core.Path.{refl, sym, ◌∙◌}
use Rattle.merge_call.proofs.is_path.Goals as goal

pub returns-then-n-gt-PATH_LIMIT : goal.returns-then-n-gt-PATH_LIMIT
returns-then-n-gt-PATH_LIMIT c = path_long _ c.if-n-gt-PATH_LIMIT.true

pub loop-x-init : goal.loop-x-init
loop-x-init c = (omega arith, refl)

pub loop-x-preserved : goal.loop-x-preserved
loop-x-preserved c =
    let l = c.loop-x in
    let h = c.loop-x-test.true in
    let a = c.args in
    (omega (arith, h), path_good a.path.now (omega (arith, c.if-n-gt-PATH_LIMIT.false)) l.x-index l.invariant.1 h (sym c.is_path_byte.ensures ∙ c.if-not-is_path_byte.false))

pub returns-then-not-is_path_byte : goal.returns-then-not-is_path_byte
returns-then-not-is_path_byte c =
    let l = c.loop-x in
    let h = c.loop-x-test.true in
    let a = c.args in
    path_bad a.path.now (omega (arith, c.if-n-gt-PATH_LIMIT.false)) l.x-index l.invariant.1 h (sym c.is_path_byte.ensures ∙ c.if-not-is_path_byte.true)

pub returns : goal.returns
returns c =
    let l = c.loop-x in
    let a = c.args in
    path_all a.path.now (omega (arith, c.if-n-gt-PATH_LIMIT.false)) l.x-index l.invariant.1 l.invariant.0 (omega (arith, c.loop-x-test.false))
