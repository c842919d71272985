-- The test says which case of `binding_group` holds. Assumes nothing.
use Rattle.symbols_numbers.proofs.Leaves.{group_local, group_other}
use mathlib.Core.Path.{sym}
use native.Mathlib.Omega.{arith}
use Rattle.symbols_numbers.proofs.binding_group.Goals as goal

pub returns-then-binding : goal.returns-then-binding
returns-then-binding c = (sym (group_local c.args.binding c.if-binding.true), omega arith)

pub returns : goal.returns
returns c = (sym (group_other c.args.binding c.if-binding.false), omega arith)
