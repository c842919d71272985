-- The blocks of a block file B, and refusal 7 (document 01, "The block file"). The lines of one key stand together, so a block is known by where
-- each of its eleven groups of lines starts. A group is one line, or any number where its key repeats.
use Rattle.std.specs.Prelude.{ℕ, zero, suc, ◌+◌, ◌-◌, Bool, cond, not, ◌&&◌, ◌||◌, List, length, ltb, leb, eqb, None, Some, Option}
use Rattle.base_lists.specs.Ranges.{first}
use Rattle.base_scope.specs.Refusals.{pick_finding}
use Rattle.base_scope.specs.Limits.{BLOCK_LIMIT}
use Rattle.blocks_lines.specs.Lines.{next, line_number}
use Rattle.blocks_lines.specs.Keys.{KEYS, repeats, is_key_line}

module _ (B : List ℕ) where
  -- past the lines of key k that stand at a, of at most n
  unfoldable pub skip_from : ℕ → ℕ → ℕ → ℕ
  skip_from k a zero = a
  skip_from k a (suc n) = cond (is_key_line B k a) (skip_from k (next B a) n) a

  -- past all of them: each line has at least its LF
  unfoldable pub skip : ℕ → ℕ → ℕ
  skip k a = skip_from k a (length B - a)

  -- how many they are, of at most n; and all of them
  unfoldable pub count_from : ℕ → ℕ → ℕ → ℕ
  count_from k a zero = 0
  count_from k a (suc n) = cond (is_key_line B k a) (count_from k (next B a) n + 1) 0

  unfoldable pub group_size : ℕ → ℕ → ℕ
  group_size k a = count_from k a (length B - a)

  -- line m behind the one at a
  unfoldable pub line_behind : ℕ → ℕ → ℕ
  line_behind a zero = a
  line_behind a (suc m) = next B (line_behind a m)

  unfoldable pub group_end : ℕ → ℕ → ℕ
  group_end k a = cond (repeats k) (skip k a) (next B a)

  -- where group k of the block at a starts; group KEYS is the next block
  unfoldable pub group_at : ℕ → ℕ → ℕ
  group_at a zero = a
  group_at a (suc k) = group_end k (group_at a k)

  -- group k must be one line, and it is not there or not sound
  unfoldable pub is_faulty : ℕ → ℕ → Bool
  is_faulty a k = not (repeats k) && not (is_key_line B k (group_at a k))

  -- the first such group of the block at a; KEYS where there is none
  unfoldable pub faulty_group : ℕ → ℕ
  faulty_group a = first (is_faulty a) 0 KEYS

  -- where block i starts
  unfoldable pub block_at : ℕ → ℕ
  block_at zero = 0
  block_at (suc i) = group_at (block_at i) KEYS

  -- the file has no block i: it ends there, or what stands there is no block
  unfoldable pub stops_at : ℕ → Bool
  stops_at i = leb (length B) (block_at i) || ltb (faulty_group (block_at i)) KEYS

  -- how many blocks stand at its start, up to the limit
  unfoldable pub block_count : ℕ
  block_count = first stops_at 0 BLOCK_LIMIT

  -- the offset at which no further block can be read: the line at fault, or the 1,025th block
  unfoldable pub fault_at : ℕ
  fault_at = cond (eqb block_count BLOCK_LIMIT) (block_at block_count) (group_at (block_at block_count) (faulty_group (block_at block_count)))

  -- refusal 7: the number of that line
  unfoldable pub block_fault : Option ℕ
  block_fault = pick_finding (leb (length B) (block_at block_count)) None (Some (line_number B fault_at))
