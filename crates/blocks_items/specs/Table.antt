-- Of the code, not of document 01: the dummies of a block, from the table of blocks. Their lines have one length.
use Rattle.std.specs.Prelude.{ℕ, ◌-◌, ◌/◌, List}
use Rattle.base_scope.specs.Limits.{DUMMY_LINE}
use Rattle.blocks_lines.specs.Keys.{KEY_DUMMY, KEY_JTBL}
use Rattle.blocks_file.specs.Table.{group_in}

-- how many the block of row i has
unfoldable pub dummies_in : List ℕ → ℕ → ℕ
dummies_in table i = (group_in table i KEY_JTBL - group_in table i KEY_DUMMY) / DUMMY_LINE
