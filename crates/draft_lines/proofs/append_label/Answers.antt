-- `draft_lines::append_label` meets its contract: the word, the label, and the suffix with its LF, one behind the other, are the line. Assumes
-- nothing.
use Rattle.base_scope.specs.Text.{text}
use Rattle.base_lists.proofs.Written.{written_then, written_as}
use Rattle.draft_lines.proofs.Lines.{label_parts}
use Rattle.draft_lines.proofs.append_label.Goals as goal

pub returns : goal.returns
unfolding text
returns c =
    let a = c.args in
    written_as _ _ _ _ _ _ (label_parts a.label.now a.suffix.now)
    (written_then _ _ _ _ _ _ _ _
    (written_then _ _ _ _ _ _ _ _
    c.append-a.ensures
    c.append-b.ensures)
    c.append_line.ensures)
