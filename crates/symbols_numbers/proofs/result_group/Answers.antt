-- The id's row tells its binding and whether it is `_gp_disp`. Assumes nothing.
use Rattle.symbols_numbers.proofs.Leaves.{group_told}
use native.Mathlib.Omega.{arith}
use Rattle.symbols_numbers.proofs.result_group.Goals as goal

pub returns : goal.returns
returns c =
    let a = c.args in
    let g = c.binding_group in
    (group_told a.rows.now a.list.now a.p _ _ _ c.row_at-row.ensures g.ensures.0 c.gp_step.ensures.0, omega (arith, g.ensures.1, c.gp_step.ensures.1))
