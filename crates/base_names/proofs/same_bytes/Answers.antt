-- `base_names::same_bytes` meets its contract: strings of two lengths differ, and those of one length are compared, or empty. Assumes nothing.
use native.Mathlib.Omega.{arith}
use mathlib.Core.Path.{sym}
use Rattle.base_lists.proofs.Strings.{same_long, same_end}
use Rattle.base_names.proofs.same_bytes.Goals as goal

pub returns-then-n-b : goal.returns-then-n-b
returns-then-n-b c =
    let s = c.args in
    sym (same_long s.a.now s.b.now c.if-n-b.true)

pub returns-then-n-ge8 : goal.returns-then-n-ge8
returns-then-n-ge8 c = c.is_same_by.ensures

pub returns-then-n-ge4 : goal.returns-then-n-ge4
returns-then-n-ge4 c = c.is_same_by-then-n-ge4.ensures

pub returns-then-n-ge1 : goal.returns-then-n-ge1
returns-then-n-ge1 c = c.is_same_by-then-n-ge1.ensures

pub returns : goal.returns
returns c =
    let s = c.args in
    sym (same_end s.a.now s.b.now 0 (omega arith) (omega arith))
