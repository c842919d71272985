-- Of the code, not of document 01: the table of blocks. It has a row of twelve words for each block, the starts of its groups and of the next block.
use Rattle.std.specs.Prelude.{ℕ, ◌+◌, ◌*◌, ◌≤◌, true, cond, List, ◌≡◌, length, get_or, Some}
use Rattle.base_lists.specs.Ranges.{gather, select}
use Rattle.base_lists.specs.Records.{flat}
use Rattle.base_lists.specs.Windows.{Within, spliced}
use Rattle.base_fields.specs.declared.ByteOrder.TheVariants.{Big}
use Rattle.base_fields.specs.Numbers.{number, encoded}
use Rattle.blocks_lines.specs.Lines.{line_number}
use Rattle.blocks_lines.specs.Keys.{KEYS, repeats}
use Rattle.blocks_lines.specs.After.{line_after}
use Rattle.base_scope.specs.Limits.{FILE_LIMIT, BLOCK_ROW}
use Rattle.blocks_file.specs.Blocks.{skip, group_at, faulty_group, block_at, block_count, block_fault}
use Rattle.blocks_file.specs.declared.BlockFile.{BlockFile}
use Rattle.blocks_file.specs.declared.BlockStarts.{BlockStarts}

module _ (B : List ℕ) where
  -- the twelve starts of the block at a
  unfoldable pub groups : ℕ → List ℕ
  groups a = select (λ k. true) (group_at B a) (KEYS + 1)

  unfoldable pub block_row : ℕ → List ℕ
  block_row i = flat (encoded Big 4) (groups (block_at B i))

  -- the rows of the first n blocks
  unfoldable pub block_table : ℕ → List ℕ
  block_table n = gather (λ i. true) block_row n

  -- where the group after group k starts, which stands at a; 0 where that must be one line and is not
  unfoldable pub group_after : ℕ → ℕ → ℕ
  group_after k a = cond (repeats k) (skip B k a) (line_after B k a)

-- the starts of the block at a, up to its first faulty group, and which that is
pub record Grouped (B : List ℕ) (a : ℕ) (r : BlockStarts) : Type 0 where
  pub faulty : r.faulty ≡ faulty_group B a
  pub start : (k : ℕ) → k ≤ faulty_group B a → get_or r.starts k 0 ≡ group_at B a k
  pub whole : faulty_group B a ≡ KEYS → r.starts ≡ groups B a

-- word k of row i
unfoldable pub group_in : List ℕ → ℕ → ℕ → ℕ
group_in table i k = number Big 4 table (BLOCK_ROW * i + 4 * k)

-- the table of a block file in hand
pub record Parsed (B table : List ℕ) : Type 0 where
  pub small : length B ≤ FILE_LIMIT
  pub rows : Within (block_table B (block_count B)) 0 table

-- a fault at the line that stands at a, behind so many blocks
unfoldable pub bad_line : List ℕ → ℕ → ℕ → BlockFile
bad_line B a n = record { fault = Some (line_number B a); count = n }

-- what reading a block file answers, and what it leaves in the table
pub record Reading (B : List ℕ) (r : BlockFile) (before after : List ℕ) : Type 0 where
  pub fault : r.fault ≡ block_fault B
  pub count : r.count ≡ block_count B
  pub table : after ≡ spliced before 0 (block_table B (block_count B))
