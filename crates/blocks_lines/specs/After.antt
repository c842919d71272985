-- Of the code, not of document 01: a test of a line that answers where the next one starts.
use Rattle.std.specs.Prelude.{ℕ, cond, List}
use Rattle.blocks_lines.specs.Lines.{next}
use Rattle.blocks_lines.specs.Keys.{is_key_line}

-- where the line behind the one at a starts, if that is a line of key k; else 0
unfoldable pub line_after : List ℕ → ℕ → ℕ → ℕ
line_after B k a = cond (is_key_line B k a) (next B a) 0
