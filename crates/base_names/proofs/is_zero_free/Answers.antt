-- The bytes are looked at, or there are none. Assumes nothing.
use native.Mathlib.Omega.{arith}
use Rattle.base_names.proofs.Zeros.{free_none}
use Rattle.base_names.proofs.is_zero_free.Goals as goal

pub returns-then-n-ge8 : goal.returns-then-n-ge8
returns-then-n-ge8 c = c.is_zero_free_by.ensures

pub returns-then-n-ge4 : goal.returns-then-n-ge4
returns-then-n-ge4 c = c.is_zero_free_by-then-n-ge4.ensures

pub returns-then-n-ge1 : goal.returns-then-n-ge1
returns-then-n-ge1 c = c.is_zero_free_by-then-n-ge1.ensures

pub returns : goal.returns
returns c = free_none c.args.s.now (omega arith)
