-- Small objects, written by hand, on which definitions are computed: the known pairs of document 01, and the examples that edits of definitions are held against.
use Rattle.std.specs.Prelude.{ℕ, ◌+◌, ◌*◌, List, [], ◌∷◌, ◌++◌}
use Rattle.base_lists.specs.Records.{flat}
use Rattle.base_fields.specs.declared.ByteOrder.TheVariants.{Big}
use Rattle.base_fields.specs.Numbers.{encoded}
use Rattle.base_scope.specs.Text.{text}

-- big-endian words
abbrev pub words : List ℕ → List ℕ
words l = flat (encoded Big 4) l

-- a file header with so many sections, the names in the last of them, and the section headers at this place
abbrev file_header : ℕ → ℕ → ℕ → List ℕ
file_header sections names place =
    words (0x7F454C46 ∷ 0x01020100 ∷ 0 ∷ 0 ∷ 0x00010008 ∷ 1 ∷ 0 ∷ 0 ∷ place ∷ 0 ∷ 0x00340000 ∷ 0x00000028 ∷ [])
    ++ flat (encoded Big 2) (sections ∷ names ∷ [])

-- an object of three sections, none, symbols and strings, whose symbol t has a value
abbrev pub label_at : ℕ → List ℕ
label_at value =
    file_header 3 2 88
    ++ words (0 ∷ 0 ∷ 0 ∷ 0 ∷ 1 ∷ value ∷ 0 ∷ 0x0000FFF1 ∷ [])
    ++ (0 ∷ text "t" ++ 0 ∷ 0 ∷ [])
    ++ words (0 ∷ 0 ∷ 0 ∷ 0 ∷ 0 ∷ 0 ∷ 0 ∷ 0 ∷ 0 ∷ 0 ∷ [])
    ++ words (0 ∷ 2 ∷ 0 ∷ 0 ∷ 52 ∷ 32 ∷ 2 ∷ 1 ∷ 4 ∷ 16 ∷ [])
    ++ words (0 ∷ 3 ∷ 0 ∷ 0 ∷ 84 ∷ 4 ∷ 0 ∷ 0 ∷ 1 ∷ 0 ∷ [])

-- an object of four sections, none, .text, symbols and strings, with so many symbols; names are offsets in the strings, where l is 7, g 9, u 11 and foo 13
abbrev pub symbol_object : ℕ → List ℕ → List ℕ
symbol_object count symbols =
    file_header 4 3 (72 + 16 * count)
    ++ words symbols
    ++ (0 ∷ text ".text" ++ 0 ∷ text "l" ++ 0 ∷ text "g" ++ 0 ∷ text "u" ++ 0 ∷ text "foo" ++ 0 ∷ 0 ∷ 0 ∷ 0 ∷ [])
    ++ words (0 ∷ 0 ∷ 0 ∷ 0 ∷ 0 ∷ 0 ∷ 0 ∷ 0 ∷ 0 ∷ 0 ∷ [])
    ++ words (1 ∷ 1 ∷ 6 ∷ 0 ∷ 52 ∷ 16 ∷ 0 ∷ 0 ∷ 4 ∷ 0 ∷ [])
    ++ words (0 ∷ 2 ∷ 0 ∷ 0 ∷ 52 ∷ (16 * count) ∷ 3 ∷ 1 ∷ 4 ∷ 16 ∷ [])
    ++ words (0 ∷ 3 ∷ 0 ∷ 0 ∷ (52 + 16 * count) ∷ 20 ∷ 0 ∷ 0 ∷ 1 ∷ 0 ∷ [])

-- An object of five sections, none, .text, .mdebug, symbols and strings, whose debug section has one file with the first `count` of six entries. The symbolic header says
-- that local symbols stand at 220, strings at 323 and the one file descriptor at 148; the name of each entry is the first of those strings, n.
abbrev pub debug_object : ℕ → List ℕ → List ℕ
debug_object count entries =
    file_header 5 4 328
    ++ words (0x70090000 ∷ 0 ∷ 0 ∷ 0 ∷ 0 ∷ 0 ∷ 0 ∷ 0 ∷ 6 ∷ 220 ∷ 0 ∷ 0 ∷ 0 ∷ 0 ∷ 2 ∷ 323 ∷ 0 ∷ 0 ∷ 1 ∷ 148 ∷ 0 ∷ 0 ∷ 0 ∷ 0 ∷ [])
    ++ words (0 ∷ 0 ∷ 0 ∷ 2 ∷ 0 ∷ count ∷ 0 ∷ 0 ∷ 0 ∷ 0 ∷ 0 ∷ 0 ∷ 0 ∷ 0 ∷ 0 ∷ 0 ∷ 0 ∷ 0 ∷ [])
    ++ words entries
    ++ words (0 ∷ 0 ∷ 0 ∷ 0 ∷ [])
    ++ (0 ∷ text ".text" ++ 0 ∷ text ".mdebug" ++ 0 ∷ text "n" ++ 0 ∷ 0 ∷ 0 ∷ 0 ∷ [])
    ++ words (0 ∷ 0 ∷ 0 ∷ 0 ∷ 0 ∷ 0 ∷ 0 ∷ 0 ∷ 0 ∷ 0 ∷ [])
    ++ words (1 ∷ 1 ∷ 6 ∷ 0 ∷ 52 ∷ 0 ∷ 0 ∷ 0 ∷ 4 ∷ 0 ∷ [])
    ++ words (7 ∷ 0x70000005 ∷ 0 ∷ 0 ∷ 52 ∷ 240 ∷ 0 ∷ 0 ∷ 4 ∷ 0 ∷ [])
    ++ words (0 ∷ 2 ∷ 0 ∷ 0 ∷ 292 ∷ 16 ∷ 4 ∷ 1 ∷ 4 ∷ 16 ∷ [])
    ++ words (0 ∷ 3 ∷ 0 ∷ 0 ∷ 308 ∷ 20 ∷ 0 ∷ 0 ∷ 1 ∷ 0 ∷ [])
