-- The lines `text=` to `bss=` of a block file B (document 01, "The block file"). Those of all blocks are counted in one row: line j is that of the section code
-- `line_code j` in block `line_block j` (the crate base_scope, specs/Codes.antt); the codes are also the indices of the keys.
use Rattle.std.specs.Prelude.{ℕ, ◌*◌, Bool, List, length, ltb}
use Rattle.base_scope.specs.Codes.{LINES, line_code, line_block}
use Rattle.base_text.specs.Decimals.{decimal}
use Rattle.blocks_values.specs.Values.{label_in, size_in, align_in}
use Rattle.blocks_lines.specs.Keys.{value_at}
use Rattle.blocks_file.specs.Blocks.{group_at, block_at, block_count}

module _ (B : List ℕ) where
  -- how many there are
  abbrev pub line_count : ℕ
  line_count = LINES * block_count B

  -- what stands behind the key in line j: nothing, or `label size align8`
  unfoldable pub span_value : ℕ → List ℕ
  span_value j = value_at B (line_code j) (group_at B (block_at B (line_block j)) (line_code j))

  unfoldable pub labelled : ℕ → Bool
  labelled j = ltb 0 (length (span_value j))

  unfoldable pub span_label : ℕ → List ℕ
  span_label j = label_in (span_value j)

  unfoldable pub span_size : ℕ → ℕ
  span_size j = decimal (size_in (span_value j))

  unfoldable pub span_align8 : ℕ → ℕ
  span_align8 j = decimal (align_in (span_value j))
