-- The path and a colon in mode 3, else nothing. Assumes nothing.
use Rattle.base_lists.proofs.Written.{written_none, written_then, written_as}
use Rattle.base_scope.specs.Text.{text}
use Rattle.statics_names.proofs.Names.{head_path, head_other}
use Rattle.statics_names.proofs.append_head.Goals as goal

pub returns-then-mode-eq-MODE_FILENAME : goal.returns-then-mode-eq-MODE_FILENAME
unfolding text
returns-then-mode-eq-MODE_FILENAME c =
    let a = c.args in
    written_as _ _ _ _ _ _ (head_path a.mode a.path.now c.if-mode-eq-MODE_FILENAME.true) (written_then _ _ _ _ _ _ _ _ c.append-a.ensures c.append.ensures)

pub returns : goal.returns
returns c =
    let a = c.args in
    written_as _ _ _ _ _ _ (head_other a.mode a.path.now c.if-mode-eq-MODE_FILENAME.false) (written_none a.out.now a.at)
