-- The word at the position is the id of a row. Assumes nothing.
use Rattle.symbols_rows.specs.Rows.{id_row}
use native.Mathlib.Omega.{arith}
use mathlib.Core.Path.{ap, ◌∙◌}
use Rattle.symbols_rows.proofs.row_at.Goals as goal

pub id_at-requires : goal.id_at-requires
id_at-requires c =
    omega (arith, c.requires.row, c.half_at.ensures.0)

pub returns : goal.returns
returns c = c.id_at.ensures ∙ ap (id_row c.args.rows.now) c.half_at.ensures.0
