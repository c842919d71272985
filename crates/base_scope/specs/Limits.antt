-- The limits of document 01, each written once; the rows of the working tables and the least lengths of the working buffers, which follow from them
-- (docs/SIZES.md); and refusal 1, which asks them.
use Rattle.std.specs.Prelude.{ℕ, ◌+◌, ◌*◌, ◌≤◌, Bool, false, ◌||◌, List, [], ◌∷◌, ltb}
use Rattle.base_scope.specs.Codes.{LINES}

-- bytes of C, A, prelude or block file
abbrev pub FILE_LIMIT : ℕ
FILE_LIMIT = 1048576

-- the largest number of the block file: a size, or the bytes of a jump table
abbrev pub NUMBER_LIMIT : ℕ
NUMBER_LIMIT = 1048576

abbrev pub ALIGN8_LIMIT : ℕ
ALIGN8_LIMIT = 8

abbrev pub SECTION_LIMIT : ℕ
SECTION_LIMIT = 128

abbrev pub SYMBOL_LIMIT : ℕ
SYMBOL_LIMIT = 4096

-- of sh_addralign
abbrev pub ALIGN_LIMIT : ℕ
ALIGN_LIMIT = 65536

-- blocks of a block file
abbrev pub BLOCK_LIMIT : ℕ
BLOCK_LIMIT = 1024

-- bytes of a path
abbrev pub PATH_LIMIT : ℕ
PATH_LIMIT = 255

-- statics of an object, and bytes of a static's stored name
abbrev pub STATIC_LIMIT : ℕ
STATIC_LIMIT = 4096

abbrev pub STATIC_NAME_LIMIT : ℕ
STATIC_NAME_LIMIT = 1024

-- What follows: the bytes of a line `dummy=` (key, eight hex digits, LF), and how many of them a block file can have; what mode 3 puts in front of a name (path and
-- colon); a written name with its head, `:`, four digits and zero byte.
abbrev pub DUMMY_LINE : ℕ
DUMMY_LINE = 15

abbrev pub DUMMY_LIMIT : ℕ
DUMMY_LIMIT = 69905

abbrev pub HEAD_LIMIT : ℕ
HEAD_LIMIT = 256

abbrev pub WRITTEN_LIMIT : ℕ
WRITTEN_LIMIT = 1286

-- ids of a merge: C's symbols, A's, and the statics
abbrev pub ID_LIMIT : ℕ
ID_LIMIT = SYMBOL_LIMIT + SYMBOL_LIMIT + STATIC_LIMIT

-- the bytes of a row: twelve words for a block, two for a line, two for a span, three for a block in the late step, two for an id; a static has 15 bytes (the crate
-- statics_table, specs/Table.antt)
abbrev pub BLOCK_ROW : ℕ
BLOCK_ROW = 48

abbrev pub PLACE_ROW : ℕ
PLACE_ROW = 8

abbrev pub SPAN_ROW : ℕ
SPAN_ROW = 8

abbrev pub LATE_ROW : ℕ
LATE_ROW = 12

abbrev pub STATIC_ROW : ℕ
STATIC_ROW = 15

abbrev pub ID_ROW : ℕ
ID_ROW = 8

-- the least lengths of the working buffers
abbrev pub BLOCK_TABLE : ℕ
BLOCK_TABLE = BLOCK_ROW * BLOCK_LIMIT

abbrev pub PLACE_TABLE : ℕ
PLACE_TABLE = PLACE_ROW * (LINES * BLOCK_LIMIT)

-- of one section
abbrev pub SPAN_TABLE : ℕ
SPAN_TABLE = SPAN_ROW * BLOCK_LIMIT

-- a row for each block and one behind the last; then, from LATE_WORDS on, a place for each dummy, three bytes: a place is below FILE_LIMIT
abbrev pub LATE_WORDS : ℕ
LATE_WORDS = LATE_ROW * (BLOCK_LIMIT + 1)

abbrev pub LATE_TABLE : ℕ
LATE_TABLE = LATE_WORDS + 3 * DUMMY_LIMIT

abbrev pub STATIC_TABLE : ℕ
STATIC_TABLE = STATIC_ROW * STATIC_LIMIT

-- a byte for each of A's symbols that says whether it is used, and a word for its glabel
abbrev pub USED_TABLE : ℕ
USED_TABLE = SYMBOL_LIMIT

abbrev pub GLABEL_TABLE : ℕ
GLABEL_TABLE = 4 * SYMBOL_LIMIT

abbrev pub ID_TABLE : ℕ
ID_TABLE = ID_ROW * ID_LIMIT

-- two bytes for each id, or for each position of the list of them
abbrev pub POSITION_TABLE : ℕ
POSITION_TABLE = 2 * ID_LIMIT

-- an index by hash of as many items: four bytes for each, and two for each of 4,096 buckets (`base_index`, specs/Index.antt)
abbrev pub INDEX_TABLE : ℕ
INDEX_TABLE = 4 * ID_LIMIT + 8192

-- the same of an object's symbols; and with the table of blocks before it, what taking in C and the block file needs
abbrev pub SYMBOL_INDEX : ℕ
SYMBOL_INDEX = 4 * SYMBOL_LIMIT + 8192

abbrev pub OPEN_TABLE : ℕ
OPEN_TABLE = BLOCK_TABLE + SYMBOL_INDEX

-- a number with its limit: it may not pass it, or may not fall below it
pub data Bound : Type 0 where
  at_most : ℕ → ℕ → Bound
  at_least : ℕ → ℕ → Bound

unfoldable pub is_broken : Bound → Bool
is_broken (at_most limit n) = ltb limit n
is_broken (at_least limit n) = ltb n limit

-- refusal 1 of a call is a list of such numbers: some limit is broken
unfoldable pub over_limits : List Bound → Bool
over_limits [] = false
over_limits (b ∷ rest) = is_broken b || over_limits rest

-- that a limit is kept
unfoldable pub Kept : Bound → Type 0
Kept (at_most limit n) = n ≤ limit
Kept (at_least limit n) = limit ≤ n
