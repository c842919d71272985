-- Of the code, not of document 01: the working buffers of a merge. Each of the four holds tables that are written one behind the other, in this order, and then only read;
-- a table is never written while another one of its buffer is read (docs/SIZES.md).
use Rattle.std.specs.Prelude.{ℕ, ◌+◌, ◌-◌, ◌≤◌, List, length}
use Rattle.base_buffers.specs.Parts.{part_at}
use Rattle.base_scope.specs.Limits.{BLOCK_TABLE, PLACE_TABLE, LATE_TABLE, STATIC_TABLE, USED_TABLE, GLABEL_TABLE, ID_TABLE, POSITION_TABLE, SYMBOL_INDEX, INDEX_TABLE}

-- ---- where tables start, and how long the buffers are

-- the table of blocks, then the rows of the ids
abbrev pub ROWS_AT : ℕ
ROWS_AT = BLOCK_TABLE

abbrev pub BLOCK_BUFFER : ℕ
BLOCK_BUFFER = ROWS_AT + ID_TABLE

-- the places, then the holders
abbrev pub HOLDERS_AT : ℕ
HOLDERS_AT = PLACE_TABLE

abbrev pub PLACE_BUFFER : ℕ
PLACE_BUFFER = HOLDERS_AT + POSITION_TABLE

-- the late step, the marks of used symbols, the statics, the glabels, the list
abbrev pub USED_AT : ℕ
USED_AT = LATE_TABLE

abbrev pub STATIC_AT : ℕ
STATIC_AT = USED_AT + USED_TABLE

abbrev pub GLABELS_AT : ℕ
GLABELS_AT = STATIC_AT + STATIC_TABLE

abbrev pub LIST_AT : ℕ
LIST_AT = GLABELS_AT + GLABEL_TABLE

abbrev pub STEP_BUFFER : ℕ
STEP_BUFFER = LIST_AT + POSITION_TABLE

-- the index by hash of A's symbols, which the line-up and the glabels are read by, at the end; then that of the list, whose hashes stand in front of A's; behind its last
-- use, over it, the order of the result and the numbers of the ids, then the spans of .text
abbrev pub NUMBERS_AT : ℕ
NUMBERS_AT = POSITION_TABLE

abbrev pub SPANS_AT : ℕ
SPANS_AT = NUMBERS_AT + POSITION_TABLE

abbrev pub INDEX_BUFFER : ℕ
INDEX_BUFFER = INDEX_TABLE

abbrev pub NAMES_AT : ℕ
NAMES_AT = INDEX_BUFFER - SYMBOL_INDEX

-- ---- the tables

abbrev pub blocks_part : List ℕ → List ℕ
blocks_part l = part_at 0 BLOCK_TABLE l

abbrev pub ids_part : List ℕ → List ℕ
ids_part l = part_at ROWS_AT ID_TABLE l

abbrev pub places_part : List ℕ → List ℕ
places_part l = part_at 0 PLACE_TABLE l

abbrev pub holders_part : List ℕ → List ℕ
holders_part l = part_at HOLDERS_AT POSITION_TABLE l

abbrev pub late_step_part : List ℕ → List ℕ
late_step_part l = part_at 0 LATE_TABLE l

abbrev pub used_part : List ℕ → List ℕ
used_part l = part_at USED_AT USED_TABLE l

abbrev pub statics_part : List ℕ → List ℕ
statics_part l = part_at STATIC_AT STATIC_TABLE l

abbrev pub glabels_part : List ℕ → List ℕ
glabels_part l = part_at GLABELS_AT GLABEL_TABLE l

abbrev pub list_part : List ℕ → List ℕ
list_part l = part_at LIST_AT POSITION_TABLE l

abbrev pub names_part : List ℕ → List ℕ
names_part l = part_at NAMES_AT SYMBOL_INDEX l

abbrev pub order_part : List ℕ → List ℕ
order_part l = part_at 0 POSITION_TABLE l

abbrev pub numbers_part : List ℕ → List ℕ
numbers_part l = part_at NUMBERS_AT POSITION_TABLE l

-- the buffers are long enough
pub record BuffersHeld (table places steps index : List ℕ) : Type 0 where
  pub table_long : BLOCK_BUFFER ≤ length table
  pub places_long : PLACE_BUFFER ≤ length places
  pub steps_long_lem : STEP_BUFFER ≤ length steps
  pub index_long_lem : INDEX_BUFFER ≤ length index
