-- The lines of a block file B (document 01, "The block file"): each ends in LF. A line is known by the offset at which it starts.
use Rattle.std.specs.Prelude.{ℕ, ◌+◌, ◌-◌, Bool, List, length, take, drop, get_or, eqb, ltb}
use Rattle.base_lists.specs.Ranges.{first, count}

-- byte i is an LF
unfoldable pub feed_at : List ℕ → ℕ → Bool
feed_at B i = eqb (get_or B i 0) 10

-- where the line at a ends: its LF, or the end of the file
unfoldable pub line_end : List ℕ → ℕ → ℕ
line_end B a = first (feed_at B) a (length B)

-- the line at a has its LF
unfoldable pub is_whole : List ℕ → ℕ → Bool
is_whole B a = ltb (line_end B a) (length B)

-- the line at a, without its LF
unfoldable pub line : List ℕ → ℕ → List ℕ
line B a = take (line_end B a - a) (drop a B)

-- where the line after it starts
unfoldable pub next : List ℕ → ℕ → ℕ
next B a = line_end B a + 1

-- the number of the line at a, from 1
unfoldable pub line_number : List ℕ → ℕ → ℕ
line_number B a = count (feed_at B) a + 1
