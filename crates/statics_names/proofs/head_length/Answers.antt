-- The path and a colon in mode 3, else nothing. Assumes nothing.
use Rattle.statics_names.proofs.Names.{head_long, head_none}
use native.Mathlib.Omega.{arith}
use Rattle.statics_names.proofs.head_length.Goals as goal

pub returns-then-mode-eq-MODE_FILENAME : goal.returns-then-mode-eq-MODE_FILENAME
returns-then-mode-eq-MODE_FILENAME c =
    let a = c.args in
    (head_long a.mode a.path.now c.if-mode-eq-MODE_FILENAME.true, omega arith)

pub returns : goal.returns
returns c =
    let a = c.args in
    (head_none a.mode a.path.now c.if-mode-eq-MODE_FILENAME.false, omega arith)
