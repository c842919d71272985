-- `blocks_places::on_after` meets its contract: behind the last line of a block stands the first one of the next. Assumes nothing.
use Rattle.base_scope.specs.Codes.{LINES, line_code}
use Rattle.blocks_places.specs.Table.{on_after}
use mathlib.Core.Path.{◌≡◌}
use borrow.Author.Tests.{eq-eqb, ne_eqb}
use native.Mathlib.Omega.{arith}
use Rattle.blocks_places.proofs.on_after.Goals as goal

pub returns-then-line_code-eq-LINES : goal.returns-then-line_code-eq-LINES
unfolding on_after
returns-then-line_code-eq-LINES c =
    let e : line_code c.args.j ≡ LINES = omega arith in
    rw (eq-eqb (line_code c.args.j) LINES e)

pub returns : goal.returns
unfolding on_after
returns c = rw (ne_eqb (line_code c.args.j) LINES (λ e. absurd (omega arith)))
