-- Of the code, not of document 01: the padding of one line by what is read of it, a row of the table of places (proofs/Places.antt, `pad_read`: it is `pad_text`).
use Rattle.std.specs.Prelude.{ℕ, ◌-◌, ◌&&◌, List, [], ◌++◌, ltb}
use Rattle.base_lists.specs.Ranges.{pick_list}
use Rattle.blocks_places.specs.Places.{Place}
use Rattle.draft_lines.specs.Lines.{section_line}
use Rattle.draft_text.specs.Draft.{fill_of}

-- the padding up to a line's place in the section of a code, where the span before it there ends at e
unfoldable pub pad_from : Place → ℕ → ℕ → List ℕ
pad_from p code e = pick_list (p.taken && ltb e p.at) (section_line code ++ fill_of code (p.at - e)) []
