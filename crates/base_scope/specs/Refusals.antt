-- The refusal numbers of document 01's table, and what a test of one of them finds.
use Rattle.std.specs.Prelude.{ℕ, Bool, true, false, ltb, None, Some, Option}

-- 1 sizes and settings, 2 file header, 3 section headers, 4 section names, 5 symbol table, 6 relocation tables, 7 block file, 8 and 9 the places of
-- blocks, 11 what C or A lacks, 12 the labels of blocks, 13 the late labels, 14 the late words, 15 and 16 the sections and late values of A's symbols, 17 statics,
-- 18 symbols that are local and undefined or neither named nor local, 19 names defined at two places, 21 room in the output
abbrev pub LIMITS : ℕ
LIMITS = 1

abbrev pub FILE_HEADER : ℕ
FILE_HEADER = 2

abbrev pub SECTION_HEADER : ℕ
SECTION_HEADER = 3

abbrev pub SECTION_NAME : ℕ
SECTION_NAME = 4

abbrev pub SYMBOL_TABLE : ℕ
SYMBOL_TABLE = 5

abbrev pub RELOCATION_TABLE : ℕ
RELOCATION_TABLE = 6

abbrev pub BLOCK_FILE : ℕ
BLOCK_FILE = 7

abbrev pub BLOCK_PLACE : ℕ
BLOCK_PLACE = 8

abbrev pub BLOCK_ALIGNMENT : ℕ
BLOCK_ALIGNMENT = 9

abbrev pub MISSING_SECTION : ℕ
MISSING_SECTION = 11

abbrev pub BLOCK_LABELS : ℕ
BLOCK_LABELS = 12

abbrev pub LATE_LABELS : ℕ
LATE_LABELS = 13

abbrev pub LATE_STEP : ℕ
LATE_STEP = 14

abbrev pub SYMBOL_SECTION : ℕ
SYMBOL_SECTION = 15

abbrev pub LATE_SYMBOL : ℕ
LATE_SYMBOL = 16

abbrev pub STATICS : ℕ
STATICS = 17

abbrev pub LOOSE_SYMBOL : ℕ
LOOSE_SYMBOL = 18

abbrev pub NAME_TWICE : ℕ
NAME_TWICE = 19

abbrev pub OUTPUT_ROOM : ℕ
OUTPUT_ROOM = 21

abbrev pub pick_finding : Bool → Option ℕ → Option ℕ → Option ℕ
pick_finding true a b = a
pick_finding false a b = b

-- a test that must hold, else the fault is at this place; then the tests after it
unfoldable pub expect : Bool → ℕ → Option ℕ → Option ℕ
expect holds place rest = pick_finding holds rest (Some place)

-- what a search for a fault among n found: its index, or n where there is none
unfoldable pub found_below : ℕ → ℕ → Option ℕ
found_below n i = pick_finding (ltb i n) (Some i) None
