-- Of the code, not of document 01: what `label size align8` says, as three numbers in hand.
use Rattle.std.specs.Prelude.{ℕ, List}
use Rattle.base_text.specs.Decimals.{decimal}
use Rattle.blocks_values.specs.declared.LineParts.{LineParts}
use Rattle.blocks_values.specs.Values.{space_in, size_in, align_in}

-- how many bytes the label has, the size and align8
unfoldable pub line_parts : List ℕ → LineParts
line_parts v = record { label = space_in v; size = decimal (size_in v); align8 = decimal (align_in v) }
